-- A configuration that is read again from its text has bounded priorities.
use Rattle.std.specs.Int.Signed.{le_z_yes}
use Rattle.std.specs.Prelude.{◌<◌, ◌+◌, get_or, length, take}
use Rattle.std.proofs.Common.{◌≡◌, ◌&&◌, ◌∙◌, ℕ, ℤ, T, pos, negsuc, Bool, true, false, cond, codes, int_le, is_some, option_and_then, List, [], ◌∷◌, ◌++◌, All, Option, Some, None, Result, Ok, Err, refl, subst, sym, ap}
use Rattle.std.proofs.lemmas.Bool.{and_parts}
use Rattle.std.proofs.lemmas.List.{take_more}
use Rattle.std.proofs.lemmas.List.Elements.{All-cons, All-nil, All-push}
use Rattle.serde_json.specs.Data.{Data, Members}
use Rattle.serde_json.specs.Find.{as_i64, as_number, as_u64, get_member}
use Rattle.ps_json.specs.Answer.{lifted, then_with}
use Rattle.ps_json.specs.Each.{read_each}
use Rattle.ps_json.specs.Fields.{need_of, without_member}
use Rattle.ps_json.specs.Kinds.{list_of}
use Rattle.ps_json.specs.Member.{required}
use Rattle.ps_json.specs.Tree.{tree_of}
use Rattle.ps_json.specs.declared.fault.JsonFault.TheVariants.{WrongKind}
use Rattle.limit_ident.specs.Fault.{in_json, wrapped}
use Rattle.limit_ident.specs.Member.{described, object_in}
use Rattle.limit_ident.specs.Named.{place_in}
use Rattle.limit_ident.specs.declared.classifier.Classifier.{Classifier}
use Rattle.limit_ident.specs.declared.fault.LimitFault.{LimitFault}
use Rattle.limit_ident.specs.declared.fault.LimitFault.TheVariants.{BadRange, Json}
use Rattle.limit_ident.specs.declared.named.Named.{Named}
use Rattle.limit_apply.specs.Bare.{bare, bare_text}
use Rattle.limit_apply.specs.Limits.{AreBounded, LimitsConfig, IsPriority}
use Rattle.limit_apply.specs.Read.{AreCounted, IsKept, after_lists, config, config_in, config_of, ended_priorities, lists_of, parts_of, schema_of}
use Rattle.limit_apply.specs.ReadApplications.{ceiling_in, ceiling_of, ceilings_of, default_of, entries_in, entry_of, priorities_of}
use Rattle.limit_apply.specs.declared.limits.Ceiling.{Ceiling}
use Rattle.limit_apply.specs.declared.limits.Priorities.{Priorities}
use Rattle.limit_apply.specs.declared.read.Lists.{Lists}

-- a chain of answers that ends well went on with each of them
went : {A B : Type 0} (r : Result A LimitFault) (next : A → Result B LimitFault) (b : B) → then_with r next ≡ Ok b → (a : A) × (r ≡ Ok a) × (next a ≡ Ok b)
went (Ok a) next b e = (a, refl, e)
went (Err fault) next b e = absurd cc

abbrev good : {A : Type 0} → A → Result A LimitFault
good a = Ok a

ok_is : {A : Type 0} (a b : A) → good a ≡ good b → a ≡ b
ok_is a b e = cc

-- ---- one number
abbrev number_in : List ℕ → List ℕ → Option ℤ → Bool → Result ℤ LimitFault
number_in place name (Some z) unsigned = cond (int_le (negsuc 999) z && int_le z (pos 1_000)) (Ok z) (Err (BadRange place))
number_in place name None unsigned = cond unsigned (Err (BadRange place)) (Err (Json (WrongKind name)))

within : (x z : ℤ) (b : Bool) (fault : LimitFault) → (int_le (negsuc 999) x && int_le x (pos 1_000)) ≡ b → cond b (Ok x) (Err fault) ≡ Ok z → IsPriority z
within x z true fault test e =
    let parts = and_parts (int_le (negsuc 999) x) (int_le x (pos 1_000)) test in
    subst IsPriority (ok_is x z e) (le_z_yes (subst T (sym parts.0) tt), le_z_yes (subst T (sym parts.1) tt))
within x z false fault test e = absurd cc

number_bounded : (place name : List ℕ) (o : Option ℤ) (unsigned : Bool) (z : ℤ) → number_in place name o unsigned ≡ Ok z → IsPriority z
number_bounded place name (Some x) unsigned z e = within x z (int_le (negsuc 999) x && int_le x (pos 1_000)) (BadRange place) refl e
number_bounded place name None true z e = absurd cc
number_bounded place name None false z e = absurd cc

ceiling_bounded : (name : List ℕ) (d : Data) (z : ℤ) → ceiling_in name d ≡ Ok z → IsPriority z
ceiling_bounded name d z e = number_bounded name name (option_and_then as_i64 (as_number d)) (is_some (option_and_then as_u64 (as_number d))) z e

zero_bounded : IsPriority (pos 0)
zero_bounded = (le_z_yes tt, le_z_yes tt)

-- a member that may be left out
abbrev given_number : Option Data → Result ℤ LimitFault
given_number None = Ok (pos 0)
given_number (Some d) = ceiling_in (codes "default") d

abbrev given_entries : List (Named Classifier) → Option Data → Result (List Ceiling) LimitFault
given_entries cs None = Ok []
given_entries cs (Some d) = entries_in cs (codes "classifiers") d

-- ---- the entries
module _ (cs : List (Named Classifier)) where
  made_bounded : (ms : Members) (c : Ceiling) → ceiling_of cs ms ≡ Ok c → IsPriority c.ceiling
  made_bounded ms c e =
      let classifier = went (required wrapped (place_in cs) (codes "classifier") ms) _ c e in
      let left : Members = without_member (codes "classifier") ms in
      let ceiling = went (required wrapped ceiling_in (codes "ceiling") left) _ c classifier.2 in
      let content = went (lifted wrapped (need_of (codes "ceiling") left)) (ceiling_in (codes "ceiling")) ceiling.0 ceiling.1 in
      subst (λ x. IsPriority x.ceiling) (ok_is _ c ceiling.2) (ceiling_bounded (codes "ceiling") content.0 ceiling.0 content.2)

  entry_bounded : (d : Data) (c : Ceiling) → entry_of cs d ≡ Ok c → IsPriority c.ceiling
  entry_bounded d c e =
      let ms = went (object_in (codes "classifiers") d) _ c e in
      let entry = went (ceiling_of cs ms.0) _ c ms.2 in
      let last = went (described (without_member (codes "ceiling") (without_member (codes "classifier") ms.0))) (λ _. Ok entry.0) c entry.2 in
      subst (λ x. IsPriority x.ceiling) (ok_is entry.0 c last.2) (made_bounded ms.0 entry.0 entry.1)

  each_bounded : (ds : List Data) (entries : List Ceiling) → read_each (entry_of cs) ds ≡ Ok entries → All (λ c. IsPriority c.ceiling) entries
  each_bounded [] entries e = subst (All (λ c. IsPriority c.ceiling)) (ok_is [] entries e) (All-nil (λ c. IsPriority c.ceiling))
  each_bounded (d ∷ ds) entries e =
      let here = went (entry_of cs d) _ entries e in
      let rest = went (read_each (entry_of cs) ds) (λ xs. Ok (here.0 ∷ xs)) entries here.2 in
      subst (All (λ c. IsPriority c.ceiling)) (ok_is (here.0 ∷ rest.0) entries rest.2)
      (All-cons (λ c. IsPriority c.ceiling) here.0 rest.0 (entry_bounded d here.0 here.1) (each_bounded ds rest.0 rest.1))

  -- ---- the members
  default_at : (o : Option Data) (z : ℤ) → given_number o ≡ Ok z → IsPriority z
  default_at None z e = subst IsPriority (ok_is (pos 0) z e) zero_bounded
  default_at (Some d) z e = ceiling_bounded (codes "default") d z e

  entries_at : (o : Option Data) (entries : List Ceiling) → given_entries cs o ≡ Ok entries → All (λ c. IsPriority c.ceiling) entries
  entries_at None entries e = subst (All (λ c. IsPriority c.ceiling)) (ok_is [] entries e) (All-nil (λ c. IsPriority c.ceiling))
  entries_at (Some d) entries e =
      let list = went (in_json (list_of (codes "classifiers") d)) (read_each (entry_of cs)) entries e in
      each_bounded list.0 entries list.2

  priorities_bounded : (o : Option Data) (p : Priorities) → priorities_of cs o ≡ Ok p → AreBounded p
  priorities_bounded None p e = subst AreBounded (ok_is (record { default = pos 0; ceilings = [] }) p e) (record { default = zero_bounded; ceilings = All-nil (λ c. IsPriority c.ceiling) })
  priorities_bounded (Some d) p e =
      let ms = went (object_in (codes "priorities") d) _ p e in
      let default = went (default_of ms.0) _ p ms.2 in
      let left : Members = without_member (codes "default") ms.0 in
      let ceilings = went (ceilings_of cs left) _ p default.2 in
      let last = went (described (without_member (codes "classifiers") left)) (λ _. Ok (record { default = default.0; ceilings = ceilings.0 })) p ceilings.2 in
      subst AreBounded (ok_is _ p last.2) (record {
        default = default_at (get_member (codes "default") ms.0) default.0 default.1;
        ceilings = entries_at (get_member (codes "classifiers") left) ceilings.0 ceilings.1;
      })

  ended_bounded : (ms : Members) (p : Priorities) → ended_priorities cs ms ≡ Ok p → AreBounded p
  ended_bounded ms p e =
      let priorities = went (priorities_of cs (get_member (codes "priorities") ms)) _ p e in
      let last = went (described (without_member (codes "priorities") ms)) (λ _. Ok priorities.0) p priorities.2 in
      subst AreBounded (ok_is priorities.0 p last.2) (priorities_bounded (get_member (codes "priorities") ms) priorities.0 priorities.1)

-- ---- the whole
parts_bounded : (d : Data) (p : Lists × Priorities) → parts_of d ≡ Ok p → AreBounded p.1
unfolding parts_of
parts_bounded d p e =
    let ms = went (object_in (codes "limits") d) _ p e in
    let schema = went (schema_of ms.0) _ p ms.2 in
    let left : Members = without_member (codes "schema") ms.0 in
    let lists = went (lists_of left) _ p schema.2 in
    let priorities = went (ended_priorities lists.0.classifiers (after_lists left)) _ p lists.2 in
    subst (λ (x : Lists × Priorities). AreBounded x.1) (ok_is (lists.0, priorities.0) p priorities.2) (ended_bounded lists.0.classifiers (after_lists left) priorities.0 priorities.1)

pub config_bounded : (text : List ℕ) (c : LimitsConfig) → config_in text ≡ Ok c → AreBounded c.priorities
unfolding config_in
config_bounded text c e =
    let d = went (in_json (tree_of text)) config_of c e in
    let parts = went (parts_of (bare d.0)) _ c d.2 in
    subst (λ (x : LimitsConfig). AreBounded x.priorities) (ok_is (config parts.0.0 parts.0.1 (bare_text d.0)) c parts.2) (parts_bounded (bare d.0) parts.0 parts.1)

-- what is made of counted lists, priorities and the text of both
pub made_kept : (lists : Lists) (priorities : Priorities) (text : List ℕ) → AreCounted lists → config_in text ≡ Ok (config lists priorities text) → IsKept (config lists priorities text)
made_kept lists priorities text counted again = record {
  identifiers = counted.identifiers;
  classifiers = counted.classifiers;
  limits = counted.limits;
  applications = counted.applications;
  priorities = config_bounded text (config lists priorities text) again;
  again = again;
}

-- ---- one after another
pub one_more : (epochs : List LimitsConfig) (i : ℕ) (l : LimitsConfig) → i < length epochs → l ≡ get_or epochs i l → All IsKept (take i epochs) → IsKept l → All IsKept (take (i + 1) epochs)
one_more epochs i l within is all kept = subst (All IsKept) (sym (take_more epochs i l within ∙ ap (λ x. take i epochs ++ x ∷ []) (sym is))) (All-push IsKept (take i epochs) l all kept)
