-- A configuration that is read has whole numbers alone and is flat, and a refusal hides no running out of memory.
use Rattle.std.proofs.Common.{◌≡◌, ◌≢◌, ◌≤◌, ℕ, ℤ, zero, suc, max, pos, negsuc, Bool, true, false, ◌||◌, List, [], Some, Result, Ok, Err, IfErr, OnOk, refl, sym, ap, ◌∙◌, subst, codes, arith}
use Rattle.serde_json.specs.Data.{Data, null, boolean, number, string, array, object, Items, no_items, item, Members, no_members, member, depth, items_depth, members_depth}
use Rattle.serde_json.specs.Written.{has_float, items_have_float, members_have_float}
use Rattle.ps_json.specs.Answer.{GivesUnless, then_with}
use Rattle.ps_json.specs.Each.{read_each}
use Rattle.ps_json.specs.Fields.{without_member}
use Rattle.ps_json.specs.Member.{required, optional, member_then}
use Rattle.limit_ident.specs.Fault.{wrapped}
use Rattle.limit_ident.specs.Member.{whole_in, described, flag_in}
use Rattle.limit_ident.specs.Named.{place_in}
use Rattle.limit_ident.specs.Plain.{IsPlain, ArePlain, IsFlat, AreFlatItems, AreFlat, IsTold, Gives}
use Rattle.limit_ident.specs.ReadClassifiers.{require_in, places_in}
use Rattle.limit_ident.specs.declared.classifier.Classifier.{Classifier}
use Rattle.limit_ident.specs.declared.fault.LimitFault.{LimitFault}
use Rattle.limit_ident.specs.declared.fault.LimitFault.TheVariants.{Memory as out_of_memory}
use Rattle.limit_ident.specs.declared.identifier.Identifier.{Identifier}
use Rattle.limit_ident.specs.declared.named.Named.{Named}
use Rattle.limit_ident.specs.declared.require.Require.{Require}
use Rattle.limit_ident.proofs.PlainLemmas.{gives_then, gives_more, gives_to, gives_object, gives_required, gives_optional, gives_flag, gives_each, gives_some, gives_list, ends_described, all_of, plain_without}
use Rattle.limit_ident.proofs.FlatLemmas.{gives_place, gives_places, gives_require, gives_whole, gives_identifiers, gives_classifiers}
use Rattle.limit_rule.proofs.FlatLemmas.{gives_limits}
use Rattle.limit_rule.specs.ReadLimits.{limits_in}
use Rattle.limit_rule.specs.declared.limit.Limit.{Limit}
use Rattle.limit_apply.specs.Read.{schema_in, identifiers_in, classifiers_in, lists_of, after_lists, ended_priorities, parts_of}
use Rattle.limit_apply.specs.ReadApplications.{group_of, apply_in, told_of, after_told, application_of, applications_in, ceiling_in, ceiling_of, entry_of, entries_in, priorities_of}
use Rattle.limit_apply.specs.declared.application.Application.{Application}
use Rattle.limit_apply.specs.declared.application.Group.{Group}
use Rattle.limit_apply.specs.declared.limits.Ceiling.{Ceiling}
use Rattle.limit_apply.specs.declared.limits.Priorities.{Priorities}
use Rattle.limit_apply.specs.declared.read.Lists.{Lists}

-- ---- applications

module _ (n : ℕ) (cs : List (Named Classifier)) (ls : List (Named Limit)) where
  require_then : Require → Members → Result Group LimitFault
  require_then require ms = member_then (codes "limits") (required wrapped (places_in ls)) ms (λ places ms. then_with (described ms) (λ _. Ok (record { require = require; limits = places })))

  gives_group : (d : Data) → IsPlain d → Gives (IsFlat (suc (suc n)) d) (group_of ls d)
  unfolding require_then
  gives_group d plain =
      gives_object (suc n) (codes "apply") d _ plain (λ ms plain. all_of _ _
      (gives_required (suc n) (Unit {0}) (codes "require") require_in ms require_then plain (λ d _. gives_require (suc n) (codes "require") d)
      (λ require ms _ plain. gives_required (suc n) (Unit {0}) (codes "limits") (places_in ls) ms (λ places ms. then_with (described ms) (λ _. Ok (record { require = require; limits = places }))) plain (gives_places n ls (codes "limits"))
      (λ places ms _ plain. ends_described (suc n) (Unit {0}) ms (record { require = require; limits = places }) plain))))

  gives_apply : (name : List ℕ) (d : Data) → IsPlain d → Gives (IsFlat (suc (suc (suc n))) d) (apply_in ls name d)
  gives_apply name d plain = gives_some (suc (suc n)) name d (read_each (group_of ls)) plain (gives_each (suc (suc n)) (group_of ls) gives_group)

  behind_invert : ℕ → List Group → Bool → Members → Result Application LimitFault
  behind_invert classifier apply invert ms =
      member_then (codes "stop-on-failure") (optional false flag_in) ms (λ stop ms. Ok (record { classifier = classifier; apply = apply; invert = invert; stop_on_failure = stop }))

  behind_apply : ℕ → List Group → Members → Result Application LimitFault
  behind_apply classifier apply ms = member_then (codes "invert") (optional false flag_in) ms (behind_invert classifier apply)

  behind_classifier : ℕ → Members → Result Application LimitFault
  behind_classifier classifier ms = member_then (codes "apply") (required wrapped (apply_in ls)) ms (behind_apply classifier)

  gives_told : (ms : Members) → ArePlain ms → Gives (AreFlat (suc (suc (suc n))) (after_told ms) → AreFlat (suc (suc (suc n))) ms) (told_of cs ls ms)
  unfolding behind_invert behind_apply behind_classifier
  gives_told ms plain =
      let X = AreFlat (suc (suc (suc n))) (after_told ms) in
      gives_required (suc (suc (suc n))) X (codes "classifier") (place_in cs) ms behind_classifier plain (λ d _. gives_place (suc (suc (suc n))) cs (codes "classifier") d)
      (λ classifier m1 e1 p1. gives_required (suc (suc (suc n))) X (codes "apply") (apply_in ls) m1 (behind_apply classifier) p1 (gives_apply (codes "apply"))
      (λ apply m2 e2 p2. gives_optional (suc (suc (suc n))) X (codes "invert") false flag_in m2 (behind_invert classifier apply) p2 (λ d _. gives_flag (suc (suc (suc n))) (codes "invert") d)
      (λ invert m3 e3 p3. gives_optional (suc (suc (suc n))) X (codes "stop-on-failure") false flag_in m3
      (λ stop ms. Ok (record { classifier = classifier; apply = apply; invert = invert; stop_on_failure = stop })) p3 (λ d _. gives_flag (suc (suc (suc n))) (codes "stop-on-failure") d)
      (λ stop m4 e4 p4 flat. subst (AreFlat (suc (suc (suc n)))) (sym (e4 ∙ ap (without_member (codes "stop-on-failure")) (e3 ∙ ap (without_member (codes "invert")) (e2 ∙ ap (without_member (codes "apply")) e1)))) flat))))

  gives_application : (d : Data) → IsPlain d → Gives (IsFlat (suc (suc (suc (suc n)))) d) (application_of cs ls d)
  gives_application d plain =
      gives_object (suc (suc (suc n))) (codes "applications") d _ plain (λ ms plain.
      gives_then (AreFlat (suc (suc (suc n))) (after_told ms)) (AreFlat (suc (suc (suc n))) ms) (told_of cs ls ms) (λ application. then_with (described (after_told ms)) (λ _. Ok application)) (gives_told ms plain)
      (λ application. all_of _ _ (ends_described (suc (suc (suc n))) (Unit {0}) (after_told ms) application (plain_without (codes "stop-on-failure") _ (plain_without (codes "invert") _ (plain_without (codes "apply") _ (plain_without (codes "classifier") ms plain)))))))

  gives_applications : (name : List ℕ) (d : Data) → IsPlain d → Gives (IsFlat (suc (suc (suc (suc (suc n))))) d) (applications_in cs ls name d)
  gives_applications name d plain = gives_some (suc (suc (suc (suc n)))) name d (read_each (application_of cs ls)) plain (gives_each (suc (suc (suc (suc n)))) (application_of cs ls) gives_application)

-- ---- priorities

module _ (n : ℕ) (cs : List (Named Classifier)) where
  ceiling_then : ℕ → Members → Result Ceiling LimitFault
  ceiling_then classifier ms = member_then (codes "ceiling") (required wrapped ceiling_in) ms (λ ceiling ms. Ok (record { classifier = classifier; ceiling = ceiling }))

  after_ceiling : Members → Members
  after_ceiling ms = without_member (codes "ceiling") (without_member (codes "classifier") ms)

  gives_ceiling_of : (ms : Members) → ArePlain ms → Gives (AreFlat n (after_ceiling ms) → AreFlat n ms) (ceiling_of cs ms)
  unfolding ceiling_then after_ceiling
  gives_ceiling_of ms plain =
      let X = AreFlat n (after_ceiling ms) in
      gives_required n X (codes "classifier") (place_in cs) ms ceiling_then plain (λ d _. gives_place n cs (codes "classifier") d)
      (λ classifier m1 e1 p1. gives_required n X (codes "ceiling") ceiling_in m1 (λ ceiling ms. Ok (record { classifier = classifier; ceiling = ceiling })) p1
      (λ d _. gives_whole n (codes "ceiling") (negsuc 999) (pos 1_000) (codes "ceiling") d)
      (λ ceiling m2 e2 p2 flat. subst (AreFlat n) (sym (e2 ∙ ap (without_member (codes "ceiling")) e1)) flat))

  gives_entry : (d : Data) → IsPlain d → Gives (IsFlat (suc n) d) (entry_of cs d)
  unfolding after_ceiling
  gives_entry d plain =
      gives_object n (codes "classifiers") d _ plain (λ ms plain.
      gives_then (AreFlat n (after_ceiling ms)) (AreFlat n ms) (ceiling_of cs ms) (λ entry. then_with (described (after_ceiling ms)) (λ _. Ok entry)) (gives_ceiling_of ms plain)
      (λ entry. all_of _ _ (ends_described n (Unit {0}) (after_ceiling ms) entry (plain_without (codes "ceiling") _ (plain_without (codes "classifier") ms plain)))))

  gives_ceilings : (name : List ℕ) (d : Data) → IsPlain d → Gives (IsFlat (suc (suc n)) d) (entries_in cs name d)
  gives_ceilings name d plain = gives_list (suc n) name d (read_each (entry_of cs)) plain (gives_each (suc n) (entry_of cs) gives_entry)

  priorities_in : List ℕ → Data → Result Priorities LimitFault
  priorities_in name d = priorities_of cs (Some d)

  default_then : ℤ → Members → Result Priorities LimitFault
  default_then default ms = member_then (codes "classifiers") (optional [] (entries_in cs)) ms (λ ceilings ms. then_with (described ms) (λ _. Ok (record { default = default; ceilings = ceilings })))

  gives_priorities : (name : List ℕ) (d : Data) → IsPlain d → Gives (IsFlat (suc (suc (suc n))) d) (priorities_in name d)
  unfolding priorities_in default_then
  gives_priorities name d plain =
      gives_object (suc (suc n)) (codes "priorities") d _ plain (λ ms plain. all_of _ _
      (gives_optional (suc (suc n)) (Unit {0}) (codes "default") (pos 0) ceiling_in ms default_then plain (λ d _. gives_whole (suc (suc n)) (codes "default") (negsuc 999) (pos 1_000) (codes "default") d)
      (λ default ms _ plain. gives_optional (suc (suc n)) (Unit {0}) (codes "classifiers") [] (entries_in cs) ms (λ ceilings ms. then_with (described ms) (λ _. Ok (record { default = default; ceilings = ceilings }))) plain (gives_ceilings (codes "classifiers"))
      (λ ceilings ms _ plain. ends_described (suc (suc n)) (Unit {0}) ms (record { default = default; ceilings = ceilings }) plain))))

  none : Priorities
  none = record { default = pos 0; ceilings = [] }

  gives_ended : (ms : Members) → ArePlain ms → Gives (AreFlat (suc (suc (suc n))) ms) (ended_priorities cs ms)
  unfolding priorities_in none
  gives_ended ms plain =
      all_of _ (ended_priorities cs ms)
      (gives_optional (suc (suc (suc n))) (Unit {0}) (codes "priorities") none priorities_in ms (λ priorities ms. then_with (described ms) (λ _. Ok priorities)) plain (gives_priorities (codes "priorities"))
      (λ priorities ms _ plain. ends_described (suc (suc (suc n))) (Unit {0}) ms priorities plain))

-- ---- the whole

behind_limits : List (Named Identifier) → List (Named Classifier) → List (Named Limit) → Members → Result Lists LimitFault
behind_limits is cs ls ms =
    member_then (codes "applications") (required wrapped (applications_in cs ls)) ms (λ applications ms. Ok (record { identifiers = is; classifiers = cs; limits = ls; applications = applications }))

behind_classifiers : List (Named Identifier) → List (Named Classifier) → Members → Result Lists LimitFault
behind_classifiers is cs ms = member_then (codes "limits") (required wrapped limits_in) ms (behind_limits is cs)

behind_identifiers : List (Named Identifier) → Members → Result Lists LimitFault
behind_identifiers is ms = member_then (codes "classifiers") (required wrapped (classifiers_in is)) ms (behind_classifiers is)

gives_lists : (ms : Members) → ArePlain ms → Gives (AreFlat 63 (after_lists ms) → AreFlat 63 ms) (lists_of ms)
unfolding behind_limits behind_classifiers behind_identifiers
gives_lists ms plain =
    let X = AreFlat 63 (after_lists ms) in
    gives_required 63 X (codes "identifiers") identifiers_in ms behind_identifiers plain (gives_identifiers 59)
    (λ is m1 e1 p1. gives_required 63 X (codes "classifiers") (classifiers_in is) m1 (behind_classifiers is) p1 (gives_classifiers 60 is)
    (λ cs m2 e2 p2. gives_required 63 X (codes "limits") limits_in m2 (behind_limits is cs) p2 (gives_limits 57 (codes "limits"))
    (λ ls m3 e3 p3. gives_required 63 X (codes "applications") (applications_in cs ls) m3 (λ applications ms. Ok (record { identifiers = is; classifiers = cs; limits = ls; applications = applications })) p3 (gives_applications 58 cs ls (codes "applications"))
    (λ applications m4 e4 p4 flat. subst (AreFlat 63) (sym (e4 ∙ ap (without_member (codes "applications")) (e3 ∙ ap (without_member (codes "limits")) (e2 ∙ ap (without_member (codes "classifiers")) e1)))) flat))))

gives_schema : (name : List ℕ) (d : Data) → Gives (IsFlat 63 d) (schema_in name d)
gives_schema name d = gives_more (IsFlat 63 d) (whole_in name (pos 1) (pos 5) name d) (λ _. Ok tt) (gives_whole 63 name (pos 1) (pos 5) name d) (λ _. tt)

priorities_then : Members → Lists → Result (Lists × Priorities) LimitFault
priorities_then ms lists = then_with (ended_priorities lists.classifiers (after_lists ms)) (λ priorities. Ok (lists, priorities))

gives_behind_schema : (ms : Members) → ArePlain ms → Gives (AreFlat 63 ms) (then_with (lists_of ms) (priorities_then ms))
unfolding priorities_then
gives_behind_schema ms plain =
    gives_then (AreFlat 63 (after_lists ms)) (AreFlat 63 ms) (lists_of ms) (priorities_then ms) (gives_lists ms plain)
    (λ lists. gives_more (AreFlat 63 (after_lists ms)) (ended_priorities lists.classifiers (after_lists ms)) (λ priorities. Ok (lists, priorities))
    (gives_ended 60 lists.classifiers (after_lists ms) (plain_without (codes "applications") _ (plain_without (codes "limits") _ (plain_without (codes "classifiers") _ (plain_without (codes "identifiers") ms plain))))) (λ _. tt))

pub gives_parts : (d : Data) → IsPlain d → Gives (IsFlat 64 d) (parts_of d)
unfolding parts_of priorities_then
gives_parts d plain =
    gives_object 63 (codes "limits") d _ plain (λ ms plain. all_of _ _
    (gives_optional 63 (Unit {0}) (codes "schema") tt schema_in ms (λ _ ms. then_with (lists_of ms) (priorities_then ms)) plain (λ d _. gives_schema (codes "schema") d)
    (λ _ ms _ plain. gives_to _ _ (then_with (lists_of ms) (priorities_then ms)) (λ flat _. flat) (gives_behind_schema ms plain))))

-- ---- flat trees can be written

both_false : (a b : Bool) → a ≡ false → b ≡ false → (a || b) ≡ false
both_false true b first second = first
both_false false b first second = second

most : (a b n : ℕ) → a ≤ n → b ≤ n → max a b ≤ n
most a b n first second = omega arith

mutual
  pub flat_whole : (n : ℕ) (d : Data) → IsFlat n d → has_float d ≡ false
  flat_whole n null flat = refl
  flat_whole n (boolean b) flat = refl
  flat_whole n (number x) flat = flat
  flat_whole n (string s) flat = refl
  flat_whole zero (array ds) flat = absurd flat
  flat_whole (suc n) (array ds) flat = flat_whole_items n ds flat
  flat_whole zero (object ms) flat = absurd flat
  flat_whole (suc n) (object ms) flat = flat_whole_members n ms flat

  flat_whole_items : (n : ℕ) (ds : Items) → AreFlatItems n ds → items_have_float ds ≡ false
  flat_whole_items n no_items flat = refl
  flat_whole_items n (item d ds) flat = both_false _ _ (flat_whole n d flat.0) (flat_whole_items n ds flat.1)

  flat_whole_members : (n : ℕ) (ms : Members) → AreFlat n ms → members_have_float ms ≡ false
  flat_whole_members n no_members flat = refl
  flat_whole_members n (member k d ms) flat = both_false _ _ (flat_whole n d flat.0) (flat_whole_members n ms flat.1)

mutual
  pub flat_depth : (n : ℕ) (d : Data) → IsFlat n d → depth d ≤ n
  flat_depth n null flat = omega arith
  flat_depth n (boolean b) flat = omega arith
  flat_depth n (number x) flat = omega arith
  flat_depth n (string s) flat = omega arith
  flat_depth zero (array ds) flat = absurd flat
  flat_depth (suc n) (array ds) flat = omega (arith, flat_depth_items n ds flat)
  flat_depth zero (object ms) flat = absurd flat
  flat_depth (suc n) (object ms) flat = omega (arith, flat_depth_members n ms flat)

  flat_depth_items : (n : ℕ) (ds : Items) → AreFlatItems n ds → items_depth ds ≤ n
  flat_depth_items n no_items flat = omega arith
  flat_depth_items n (item d ds) flat = most _ _ n (flat_depth n d flat.0) (flat_depth_items n ds flat.1)

  flat_depth_members : (n : ℕ) (ms : Members) → AreFlat n ms → members_depth ms ≤ n
  flat_depth_members n no_members flat = omega arith
  flat_depth_members n (member k d ms) flat = most _ _ n (flat_depth n d flat.0) (flat_depth_members n ms flat.1)

-- ---- answers of calls

-- out of memory may come in place of any answer, and hides nothing either
pub answer_told : {A : Type 0} (G : Type 0) (r want : Result A LimitFault) → GivesUnless out_of_memory r want → Gives G want → IfErr r IsTold
answer_told G (Ok x) want gives known = tt
answer_told G (Err e) want gives known = λ is. let other : e ≢ out_of_memory = λ same. cc in subst (Gives G) (gives other) known is

pub answer_flat : {A : Type 0} (G : Type 0) (r want : Result A LimitFault) → GivesUnless out_of_memory r want → Gives G want → OnOk r G
answer_flat G (Ok x) want gives known = subst (Gives G) gives known
answer_flat G (Err e) want gives known = tt
