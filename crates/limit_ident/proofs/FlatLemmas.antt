-- Identifiers and classifiers that are read have whole numbers alone and are flat, and a refusal hides no running out of memory.
use Rattle.std.proofs.Common.{◌≡◌, ℕ, ℤ, suc, ◌^◌, pos, nat_lt, int_le, ◌&&◌, Bool, true, false, List, [], ◌∷◌, ◌++◌, Option, Some, None, Result, Ok, Err, bytes_eq, refl, sym, ap, ◌∙◌, subst, codes}
use Rattle.serde_json.specs.Data.{Data, null, boolean, number, string, array, object, Items, no_items, item, Members, unsigned, negative, float}
use Rattle.ps_json.specs.Answer.{then_with}
use Rattle.ps_json.specs.Each.{read_each}
use Rattle.ps_json.specs.Fields.{without_member}
use Rattle.ps_json.specs.Kinds.{items_list}
use Rattle.ps_json.specs.Member.{required, optional, member_then}
use Rattle.limit_ident.specs.Address.{block_of}
use Rattle.limit_ident.specs.Fault.{wrapped}
use Rattle.limit_ident.specs.Member.{whole_in, ended, described, text_in, flag_in}
use Rattle.limit_ident.specs.Named.{place_of, entry_in, entries_from, entries_in, new_in, place_in}
use Rattle.limit_ident.specs.Plain.{IsPlain, ArePlainItems, ArePlain, IsFlat, AreFlatItems, AreFlat, Gives}
use Rattle.limit_ident.specs.ReadClassifiers.{require_of, require_in, places_in, classifier_of, classifiers_of}
use Rattle.limit_ident.specs.ReadIdentifiers.{kind_of, kind_in, hint_in, style_in, match_in, hinted_in, block_in, blocks_in, cidr_list_in, always_of, condition_of, told_of, after_told, rest_of, identifier_of, identifiers_of}
use Rattle.limit_ident.specs.declared.fault.LimitFault.{LimitFault}
use Rattle.limit_ident.specs.declared.identifier.Condition.{Condition}
use Rattle.limit_ident.specs.declared.identifier.Condition.TheVariants.{Always as always, CidrList as cidr_list, Hint as hinted}
use Rattle.limit_ident.specs.declared.identifier.Hint.{Hint}
use Rattle.limit_ident.specs.declared.identifier.Identifier.{Identifier}
use Rattle.limit_ident.specs.declared.named.Named.{Named}
use Rattle.limit_ident.specs.declared.address.Block.{Block}
use Rattle.limit_ident.specs.declared.read_identifiers.Kind.{Kind}
use Rattle.limit_ident.specs.declared.read_identifiers.Kind.TheVariants.{Always, CidrList, Hint as hint}
use Rattle.limit_ident.specs.declared.require.Require.{Require}
use Rattle.limit_ident.specs.declared.require.Require.TheVariants.{Any as any}
use Rattle.limit_ident.proofs.PlainLemmas.{gives_then, gives_more, gives_to, gives_object, gives_required, gives_optional, gives_text, gives_flag, gives_each, gives_some, ends, ends_described, by_text, all_of, plain_without}

-- ---- members

module _ (n : ℕ) where
  gives_new : {T : Type 0} (before : List (Named T)) (name : List ℕ) (d : Data) → Gives (IsFlat n d) (new_in before name d)
  gives_new {T} before name d = by_text (λ d. Gives (IsFlat n d) (new_in before name d)) (λ s. by s (place_of s before) refl) (λ d none. rw none (λ is. cc)) d
    where
      by : (s : List ℕ) (o : Option ℕ) → place_of s before ≡ o → Gives (IsFlat n (string s)) (new_in before name (string s))
      by s None is = rw is tt
      by s (Some place) is = rw is (λ same. cc)

  pub gives_place : {T : Type 0} (es : List (Named T)) (name : List ℕ) (d : Data) → Gives (IsFlat n d) (place_in es name d)
  gives_place {T} es name d = by_text (λ d. Gives (IsFlat n d) (place_in es name d)) (λ s. by s (place_of s es) refl) (λ d none. rw none (λ is. cc)) d
    where
      by : (s : List ℕ) (o : Option ℕ) → place_of s es ≡ o → Gives (IsFlat n (string s)) (place_in es name (string s))
      by s None is = rw is (λ same. cc)
      by s (Some place) is = rw is tt

  pub gives_places : {T : Type 0} (es : List (Named T)) (name : List ℕ) (d : Data) → IsPlain d → Gives (IsFlat (suc n) d) (places_in es name d)
  gives_places es name d plain = gives_some n name d (read_each (place_in es name)) plain (gives_each n (place_in es name) (λ d _. gives_place es name d))

  pub gives_require : (name : List ℕ) (d : Data) → Gives (IsFlat n d) (require_in name d)
  gives_require name d = by_text (λ d. Gives (IsFlat n d) (require_in name d)) (λ s. by s (require_of s) refl) (λ d none. rw none (λ is. cc)) d
    where
      by : (s : List ℕ) (o : Option Require) → require_of s ≡ o → Gives (IsFlat n (string s)) (require_in name (string s))
      by s None is = rw is (λ same. cc)
      by s (Some require) is = rw is tt

  pub gives_whole : (place : List ℕ) (least most : ℤ) (name : List ℕ) (d : Data) → Gives (IsFlat n d) (whole_in place least most name d)
  gives_whole place least most name null = λ is. cc
  gives_whole place least most name (boolean b) = λ is. cc
  gives_whole place least most name (string s) = λ is. cc
  gives_whole place least most name (array ds) = λ is. cc
  gives_whole place least most name (object ms) = λ is. cc
  gives_whole place least most name (number (float x)) = λ is. cc
  gives_whole place least most name (number (negative z)) = by (int_le least z && int_le z most) refl
    where
      by : (b : Bool) → (int_le least z && int_le z most) ≡ b → Gives (false ≡ false) (whole_in place least most name (number (negative z)))
      by true is = rw is refl
      by false is = rw is (λ same. cc)
  gives_whole place least most name (number (unsigned m)) = small (nat_lt m (2 ^ 63)) refl
    where
      by : nat_lt m (2 ^ 63) ≡ true → (b : Bool) → (int_le least (pos m) && int_le (pos m) most) ≡ b → Gives (false ≡ false) (whole_in place least most name (number (unsigned m)))
      by low true is = rw (low, is) refl
      by low false is = rw (low, is) (λ same. cc)

      small : (b : Bool) → nat_lt m (2 ^ 63) ≡ b → Gives (false ≡ false) (whole_in place least most name (number (unsigned m)))
      small true low = by low (int_le least (pos m) && int_le (pos m) most) refl
      small false high = rw high (λ same. cc)

-- ---- entries with names

then_twice : {A B C : Type 0} (r : Result A LimitFault) (f : A → Result B LimitFault) (g : B → Result C LimitFault) → then_with (then_with r f) g ≡ then_with r (λ a. then_with (f a) g)
then_twice (Err fault) f g = refl
then_twice (Ok a) f g = refl

module _ {T : Type 0} (n : ℕ) (list : List ℕ) (rest : Members → Result T LimitFault) (one : (ms : Members) → ArePlain ms → Gives (AreFlat n ms) (rest ms)) where
  named : List ℕ × Members → Result (Named T) LimitFault
  named head = then_with (rest head.1) (λ value. Ok (record { name = head.0; value = value }))

  entry_of : List (Named T) → Members → Result (Named T) LimitFault
  entry_of before ms = member_then (codes "name") (required wrapped (new_in before)) ms (λ name ms. then_with (rest ms) (λ value. Ok (record { name = name; value = value })))

  gives_members : (before : List (Named T)) (ms : Members) → ArePlain ms → Gives (AreFlat n ms) (entry_of before ms)
  unfolding entry_of
  gives_members before ms plain =
      all_of _ (entry_of before ms)
      (gives_required n (Unit {0}) (codes "name") (new_in before) ms (λ name ms. then_with (rest ms) (λ value. Ok (record { name = name; value = value }))) plain
      (λ d _. gives_new n before (codes "name") d)
      (λ name ms _ plain. gives_to _ _ (then_with (rest ms) (λ value. Ok (record { name = name; value = value }))) (λ flat _. flat)
      (gives_more (AreFlat n ms) (rest ms) (λ value. Ok (record { name = name; value = value })) (one ms plain) (λ _. tt))))

  gives_entry : (before : List (Named T)) (d : Data) → IsPlain d → Gives (IsFlat (suc n) d) (entry_in list rest before d)
  unfolding entry_of named
  gives_entry before null plain = λ is. cc
  gives_entry before (boolean b) plain = λ is. cc
  gives_entry before (number x) plain = λ is. cc
  gives_entry before (string s) plain = λ is. cc
  gives_entry before (array ds) plain = λ is. cc
  gives_entry before (object ms) plain =
      subst (Gives (AreFlat n ms))
      (sym (then_twice (required wrapped (new_in before) (codes "name") ms) (λ name. Ok (name, without_member (codes "name") ms)) named))
      (gives_members before ms plain)

  gives_entries_from : (done : List (Named T)) (ds : Items) → ArePlainItems ds → Gives (AreFlatItems (suc n) ds) (entries_from list rest done (items_list ds))
  gives_entries_from done no_items plain = tt
  gives_entries_from done (item d ds) plain =
      gives_then (AreFlatItems (suc n) ds) (AreFlatItems (suc n) (item d ds)) (entry_in list rest done d) (λ e. entries_from list rest (done ++ e ∷ []) (items_list ds))
      (gives_to _ _ (entry_in list rest done d) (λ flat more. (flat, more)) (gives_entry done d plain.0))
      (λ e. gives_entries_from (done ++ e ∷ []) ds plain.1)

  pub gives_entries : (d : Data) → IsPlain d → Gives (IsFlat (suc (suc n)) d) (entries_in rest list d)
  gives_entries d plain = gives_some (suc n) list d (entries_from list rest []) plain (gives_entries_from [])

-- ---- identifiers

module _ (n : ℕ) where
  gives_kind : (name : List ℕ) (d : Data) → Gives (IsFlat n d) (kind_in name d)
  gives_kind name d = by_text (λ d. Gives (IsFlat n d) (kind_in name d)) (λ s. by s (kind_of s) refl) (λ d none. rw none (λ is. cc)) d
    where
      by : (s : List ℕ) (o : Option Kind) → kind_of s ≡ o → Gives (IsFlat n (string s)) (kind_in name (string s))
      by s None is = rw is (λ same. cc)
      by s (Some kind) is = rw is tt

  gives_hint : (name : List ℕ) (d : Data) → Gives (IsFlat n d) (hint_in name d)
  gives_hint name d = by_text (λ d. Gives (IsFlat n d) (hint_in name d)) (λ s. by s (bytes_eq s (codes "requester")) (bytes_eq s (codes "server")) refl refl) (λ d none. rw none (λ is. cc)) d
    where
      by : (s : List ℕ) (a b : Bool) → bytes_eq s (codes "requester") ≡ a → bytes_eq s (codes "server") ≡ b → Gives (IsFlat n (string s)) (hint_in name (string s))
      by s true b first second = rw first tt
      by s false true first second = rw (first, second) tt
      by s false false first second = rw (first, second) (λ same. cc)

  gives_style : (name : List ℕ) (d : Data) → Gives (IsFlat n d) (style_in name d)
  gives_style name d = by_text (λ d. Gives (IsFlat n d) (style_in name d)) (λ s. by s (bytes_eq s (codes "exact")) (bytes_eq s (codes "contains")) refl refl) (λ d none. rw none (λ is. cc)) d
    where
      by : (s : List ℕ) (a b : Bool) → bytes_eq s (codes "exact") ≡ a → bytes_eq s (codes "contains") ≡ b → Gives (IsFlat n (string s)) (style_in name (string s))
      by s true b first second = rw first tt
      by s false true first second = rw (first, second) tt
      by s false false first second = rw (first, second) (λ same. cc)

  gives_block : (d : Data) → Gives (IsFlat n d) (block_in d)
  gives_block d = by_text (λ d. Gives (IsFlat n d) (block_in d)) (λ s. by s (block_of s) refl) (λ d none. rw none (λ is. cc)) d
    where
      by : (s : List ℕ) (o : Option Block) → block_of s ≡ o → Gives (IsFlat n (string s)) (block_in (string s))
      by s None is = rw is (λ same. cc)
      by s (Some block) is = rw is tt

module _ (n : ℕ) where
  gives_match : (name : List ℕ) (d : Data) → IsPlain d → Gives (IsFlat (suc n) d) (match_in name d)
  gives_match name d plain =
      gives_object n name d _ plain (λ ms plain. all_of _ _
      (gives_required n (Unit {0}) (codes "style") style_in ms (λ style ms. member_then (codes "match") (required wrapped text_in) ms (λ text ms. then_with (ended ms) (λ _. Ok (style, text)))) plain (λ d _. gives_style n (codes "style") d)
      (λ style ms _ plain. gives_required n (Unit {0}) (codes "match") text_in ms (λ text ms. then_with (ended ms) (λ _. Ok (style, text))) plain (λ d _. gives_text n (codes "match") d)
      (λ text ms _ plain. ends n (Unit {0}) ms (style, text) plain))))

  hinted_then : Hint → Members → Result Condition LimitFault
  hinted_then h ms = member_then (codes "match") (required wrapped match_in) ms (λ match ms. then_with (ended ms) (λ _. Ok (hinted h match.0 match.1)))

  gives_hinted : (name : List ℕ) (d : Data) → IsPlain d → Gives (IsFlat (suc (suc n)) d) (hinted_in name d)
  unfolding hinted_then
  gives_hinted name d plain =
      gives_object (suc n) name d _ plain (λ ms plain. all_of _ _
      (gives_required (suc n) (Unit {0}) (codes "hint") hint_in ms hinted_then plain (λ d _. gives_hint (suc n) (codes "hint") d)
      (λ h ms _ plain. gives_required (suc n) (Unit {0}) (codes "match") match_in ms (λ match ms. then_with (ended ms) (λ _. Ok (hinted h match.0 match.1))) plain (gives_match (codes "match"))
      (λ match ms _ plain. ends (suc n) (Unit {0}) ms (hinted h match.0 match.1) plain))))

  gives_blocks : (name : List ℕ) (d : Data) → IsPlain d → Gives (IsFlat (suc n) d) (blocks_in name d)
  gives_blocks name d plain = gives_some n name d (read_each block_in) plain (gives_each n block_in (λ d _. gives_block n d))

  gives_cidr_list : (name : List ℕ) (d : Data) → IsPlain d → Gives (IsFlat (suc (suc n)) d) (cidr_list_in name d)
  gives_cidr_list name d plain =
      gives_object (suc n) name d _ plain (λ ms plain. all_of _ _
      (gives_required (suc n) (Unit {0}) (codes "cidrs") blocks_in ms (λ blocks ms. then_with (ended ms) (λ _. Ok (cidr_list blocks))) plain (gives_blocks (codes "cidrs"))
      (λ blocks ms _ plain. ends (suc n) (Unit {0}) ms (cidr_list blocks) plain)))

  always_in : List ℕ → Data → Result Condition LimitFault
  always_in name d = always_of (Some d)

  gives_always : (name : List ℕ) (d : Data) → IsPlain d → Gives (IsFlat (suc (suc n)) d) (always_in name d)
  unfolding always_in
  gives_always name d plain =
      gives_object (suc n) (codes "data") d _ plain (λ ms plain. all_of _ _ (ends (suc n) (Unit {0}) ms always plain))

  -- what `data` is, by the type
  gives_condition : (X : Type 0) (kind : Kind) (ms : Members) (next : Condition → Members → Result Identifier LimitFault) → ArePlain ms
      → ((c : Condition) (rest : Members) → rest ≡ without_member (codes "data") ms → ArePlain rest → Gives (X → AreFlat (suc (suc n)) rest) (next c rest))
      → Gives (X → AreFlat (suc (suc n)) ms) (member_then (codes "data") (condition_of kind) ms next)
  unfolding condition_of always_in
  gives_condition X Always ms next plain later = gives_optional (suc (suc n)) X (codes "data") always always_in ms next plain (gives_always (codes "data")) later
  gives_condition X hint ms next plain later = gives_required (suc (suc n)) X (codes "data") hinted_in ms next plain (gives_hinted (codes "data")) later
  gives_condition X CidrList ms next plain later = gives_required (suc (suc n)) X (codes "data") cidr_list_in ms next plain (gives_cidr_list (codes "data")) later

  gives_told : (kind : Kind) (ms : Members) → ArePlain ms → Gives (AreFlat (suc (suc n)) (after_told ms) → AreFlat (suc (suc n)) ms) (told_of kind ms)
  gives_told kind ms plain =
      let X = AreFlat (suc (suc n)) (after_told ms) in
      gives_condition X kind ms (λ condition ms. member_then (codes "invert") (optional false flag_in) ms (λ invert ms. Ok (record { condition = condition; invert = invert }))) plain
      (λ condition behind is plain. gives_optional (suc (suc n)) X (codes "invert") false flag_in behind (λ invert ms. Ok (record { condition = condition; invert = invert })) plain (λ d _. gives_flag (suc (suc n)) (codes "invert") d)
      (λ invert last then plain flat. subst (AreFlat (suc (suc n))) (sym (then ∙ ap (without_member (codes "invert")) is)) flat))

  gives_rest : (kind : Kind) (ms : Members) → ArePlain ms → Gives (AreFlat (suc (suc n)) ms) (rest_of kind ms)
  gives_rest kind ms plain =
      gives_then (AreFlat (suc (suc n)) (after_told ms)) (AreFlat (suc (suc n)) ms) (told_of kind ms) (λ identifier. then_with (described (after_told ms)) (λ _. Ok identifier)) (gives_told kind ms plain)
      (λ identifier. all_of _ _ (ends_described (suc (suc n)) (Unit {0}) (after_told ms) identifier (plain_without (codes "invert") _ (plain_without (codes "data") ms plain))))

  gives_identifier : (ms : Members) → ArePlain ms → Gives (AreFlat (suc (suc n)) ms) (identifier_of ms)
  gives_identifier ms plain =
      all_of _ (identifier_of ms)
      (gives_required (suc (suc n)) (Unit {0}) (codes "type") kind_in ms rest_of plain (λ d _. gives_kind (suc (suc n)) (codes "type") d)
      (λ kind ms _ plain. gives_to _ _ (rest_of kind ms) (λ flat _. flat) (gives_rest kind ms plain)))

  pub gives_identifiers : (d : Data) → IsPlain d → Gives (IsFlat (suc (suc (suc (suc n)))) d) (identifiers_of d)
  gives_identifiers d plain = gives_entries (suc (suc n)) (codes "identifiers") identifier_of gives_identifier d plain

-- ---- classifiers

module _ (n : ℕ) (is : List (Named Identifier)) where
  gives_classifier : (ms : Members) → ArePlain ms → Gives (AreFlat (suc n) ms) (classifier_of is ms)
  gives_classifier ms plain =
      all_of _ (classifier_of is ms)
      (gives_required (suc n) (Unit {0}) (codes "identifiers") (places_in is) ms
      (λ places ms. member_then (codes "require") (optional any require_in) ms (λ require ms. then_with (described ms) (λ _. Ok (record { identifiers = places; require = require })))) plain (gives_places n is (codes "identifiers"))
      (λ places ms _ plain. gives_optional (suc n) (Unit {0}) (codes "require") any require_in ms (λ require ms. then_with (described ms) (λ _. Ok (record { identifiers = places; require = require }))) plain (λ d _. gives_require (suc n) (codes "require") d)
      (λ require ms _ plain. ends_described (suc n) (Unit {0}) ms (record { identifiers = places; require = require }) plain)))

  pub gives_classifiers : (d : Data) → IsPlain d → Gives (IsFlat (suc (suc (suc n))) d) (classifiers_of is d)
  gives_classifiers d plain = gives_entries (suc n) (codes "classifiers") (classifier_of is) gives_classifier d plain
