-- What a tree without comments that is accepted looks like: each member of an object was read, and none is left.
use Rattle.std.proofs.Common.{◌≡◌, ℕ, suc, Bool, true, false, cond, List, ◌∷◌, Option, Some, None, Result, Ok, Err, Ordering, Less, Equal, Greater, nat_cmp, is_eq, bytes_eq, refl, sym, ◌∙◌, subst, codes}
use Rattle.std.proofs.lemmas.Map.Text.{is_eq-slice_cmp}
use Rattle.std.proofs.lemmas.Slice.Eq.{bytes_eq-Decides}
use Rattle.std.specs.Cmp.Lexicographic.{slice_cmp}
use Rattle.std.specs.Ordering.{match_ordering}
use Rattle.serde_json.specs.Data.{Data, null, boolean, number, string, array, object, Items, no_items, item, Members, no_members, member}
use Rattle.serde_json.specs.Find.{get_member, as_str}
use Rattle.ps_json.specs.Answer.{then_with}
use Rattle.ps_json.specs.Each.{read_each}
use Rattle.ps_json.specs.Fields.{without_member}
use Rattle.ps_json.specs.Kinds.{items_list, list_of}
use Rattle.ps_json.specs.Member.{required, optional, member_then}
use Rattle.limit_ident.specs.Fault.{wrapped, in_json}
use Rattle.limit_ident.specs.Member.{object_in, some_in, ended, described, text_in, flag_in, remark_in}
use Rattle.limit_ident.specs.Plain.{AreAbove, IsPlain, ArePlainItems, ArePlain, IsFlat, AreFlatItems, AreFlat, IsTold, Gives}
use Rattle.limit_ident.specs.declared.fault.LimitFault.{LimitFault}

-- ---- members taken out

equal_at : (o : Ordering) (d : Data) (rest : Option Data) → is_eq o ≡ true → match_ordering o rest (Some d) rest ≡ Some d
equal_at Less d rest is = cc
equal_at Equal d rest is = refl
equal_at Greater d rest is = cc

other_at : (o : Ordering) (d : Data) (rest : Option Data) → is_eq o ≡ false → match_ordering o rest (Some d) rest ≡ rest
other_at Less d rest is = refl
other_at Equal d rest is = cc
other_at Greater d rest is = refl

module _ (name k : List ℕ) (d : Data) (ms : Members) where
  found_here : bytes_eq name k ≡ true → get_member name (member k d ms) ≡ Some d
  found_here same = equal_at (slice_cmp nat_cmp name k) d _ (is_eq-slice_cmp name k ∙ same)

  found_later : bytes_eq name k ≡ false → get_member name (member k d ms) ≡ get_member name ms
  found_later differ = other_at (slice_cmp nat_cmp name k) d _ (is_eq-slice_cmp name k ∙ differ)

-- a name below all others isn't among them
absent_below : (k : List ℕ) (ms : Members) → AreAbove k ms → get_member k ms ≡ None
absent_below k no_members above = refl
absent_below k (member l d ms) above = rw above.0 (absent_below k ms above.1)

above_without : (k name : List ℕ) (ms : Members) → AreAbove k ms → AreAbove k (without_member name ms)
above_without k name no_members above = tt
above_without k name (member l d ms) above =
    elim (bytes_eq name l) as (λ b. AreAbove k (cond b (without_member name ms) (member l d (without_member name ms)))) [
      | true ↦ above_without k name ms above.1
      | false ↦ (above.0, above_without k name ms above.1)
    ]

pub plain_without : (name : List ℕ) (ms : Members) → ArePlain ms → ArePlain (without_member name ms)
plain_without name no_members plain = tt
plain_without name (member k d ms) plain =
    elim (bytes_eq name k) as (λ b. ArePlain (cond b (without_member name ms) (member k d (without_member name ms)))) [
      | true ↦ plain_without name ms plain.3
      | false ↦ (plain.0, above_without k name ms plain.1, plain.2, plain_without name ms plain.3)
    ]

some_data : (a b : Data) → Some a ≡ Some b → a ≡ b
some_data a b is = cc

plain_member : (name : List ℕ) (ms : Members) (d : Data) → ArePlain ms → get_member name ms ≡ Some d → IsPlain d
plain_member name no_members d plain is = absurd cc
plain_member name (member k e ms) d plain is =
    let cases = elim (bytes_eq name k) as (λ b. bytes_eq name k ≡ b → IsPlain d) [
      | true ↦ λ same. subst IsPlain (some_data e d (sym (found_here name k e ms same) ∙ is)) plain.2
      | false ↦ λ differ. plain_member name ms d plain.3 (sym (found_later name k e ms differ) ∙ is)
    ] in
    cases refl

module _ (n : ℕ) where
  -- where no member has the name, the others are all
  flat_absent : (name : List ℕ) (ms : Members) → get_member name ms ≡ None → AreFlat n (without_member name ms) → AreFlat n ms
  flat_absent name no_members none flat = tt
  flat_absent name (member k e ms) none flat =
      let cases = elim (bytes_eq name k) as (λ b. bytes_eq name k ≡ b → AreFlat n (cond b (without_member name ms) (member k e (without_member name ms))) → AreFlat n (member k e ms)) [
        | true ↦ λ same rest. let here = found_here name k e ms same in absurd cc
        | false ↦ λ differ rest. (rest.0, flat_absent name ms (sym (found_later name k e ms differ) ∙ none) rest.1)
      ] in
      cases refl flat

  -- else it is one, and the others
  flat_taken : (name : List ℕ) (ms : Members) (d : Data) → ArePlain ms → get_member name ms ≡ Some d → IsFlat n d → AreFlat n (without_member name ms) → AreFlat n ms
  flat_taken name no_members d plain is flat rest = tt
  flat_taken name (member k e ms) d plain is flat rest =
      let cases = elim (bytes_eq name k) as (λ b. bytes_eq name k ≡ b → AreFlat n (cond b (without_member name ms) (member k e (without_member name ms))) → AreFlat n (member k e ms)) [
        | true ↦ λ same rest. let one : name ≡ k = (bytes_eq-Decides name k).0 same in (
          subst (IsFlat n) (sym (some_data e d (sym (found_here name k e ms same) ∙ is))) flat,
          flat_absent name ms (subst (λ l. get_member l ms ≡ None) (sym one) (absent_below k ms plain.1)) rest,
        )
        | false ↦ λ differ rest. (rest.0, flat_taken name ms d plain.3 (sym (found_later name k e ms differ) ∙ is) flat rest.1)
      ] in
      cases refl rest

-- ---- answers one after another

pub gives_unless : {A : Type 0} (G : Type 0) (b : Bool) (fault : LimitFault) (r : Result A LimitFault) → IsTold fault → Gives G r → Gives G (cond b (Err fault) r)
gives_unless G true fault r told gives = told
gives_unless G false fault r told gives = gives

pub gives_then : {A B : Type 0} (X G : Type 0) (r : Result A LimitFault) (next : A → Result B LimitFault) → Gives (X → G) r → ((a : A) → Gives X (next a)) → Gives G (then_with r next)
gives_then X G (Err fault) next first later = first
gives_then {B = B} X G (Ok a) next first later = by (next a) (later a)
  where
    by : (r : Result B LimitFault) → Gives X r → Gives G r
    by (Err fault) gives = gives
    by (Ok b) gives = first gives

-- what comes behind a value adds nothing
pub gives_more : {A B : Type 0} (G : Type 0) (r : Result A LimitFault) (next : A → Result B LimitFault) → Gives G r → ((a : A) → Gives (Unit {0}) (next a)) → Gives G (then_with r next)
gives_more G (Err fault) next first later = first
gives_more {B = B} G (Ok a) next first later = by (next a) (later a)
  where
    by : (r : Result B LimitFault) → Gives (Unit {0}) r → Gives G r
    by (Err fault) gives = gives
    by (Ok b) gives = first

pub gives_to : {A : Type 0} (X G : Type 0) (r : Result A LimitFault) → (X → G) → Gives X r → Gives G r
gives_to X G (Err fault) to gives = gives
gives_to X G (Ok a) to gives = to gives

module _ (n : ℕ) where
  -- an object is as its members are
  pub gives_object : {A : Type 0} (name : List ℕ) (d : Data) (next : Members → Result A LimitFault) → IsPlain d → ((ms : Members) → ArePlain ms → Gives (AreFlat n ms) (next ms))
      → Gives (IsFlat (suc n) d) (then_with (object_in name d) next)
  gives_object name null next plain later = λ is. cc
  gives_object name (boolean b) next plain later = λ is. cc
  gives_object name (number x) next plain later = λ is. cc
  gives_object name (string s) next plain later = λ is. cc
  gives_object name (array ds) next plain later = λ is. cc
  gives_object name (object ms) next plain later = later ms plain

  -- Members of which one has to be there, and of which the others are told. Where `X` holds the others are flat.
  pub gives_required : {A B : Type 0} (X : Type 0) (name : List ℕ) (content : List ℕ → Data → Result A LimitFault) (ms : Members) (next : A → Members → Result B LimitFault) → ArePlain ms
      → ((d : Data) → IsPlain d → Gives (IsFlat n d) (content name d)) → ((a : A) (rest : Members) → rest ≡ without_member name ms → ArePlain rest → Gives (X → AreFlat n rest) (next a rest))
      → Gives (X → AreFlat n ms) (member_then name (required wrapped content) ms next)
  gives_required {A} {B} X name content ms next plain one later = by (get_member name ms) refl
    where
      by : (o : Option Data) → get_member name ms ≡ o → Gives (X → AreFlat n ms) (member_then name (required wrapped content) ms next)
      by None is = rw is (λ same. cc)
      by (Some d) is = rw is (
          gives_then (X → AreFlat n (without_member name ms)) (X → AreFlat n ms) (content name d) (λ a. next a (without_member name ms))
          (gives_to (IsFlat n d) _ (content name d) (λ flat rest x. flat_taken n name ms d plain is flat (rest x)) (one d (plain_member name ms d plain is)))
          (λ a. later a (without_member name ms) refl (plain_without name ms plain))
          )

  pub gives_optional : {A B : Type 0} (X : Type 0) (name : List ℕ) (absent : A) (content : List ℕ → Data → Result A LimitFault) (ms : Members) (next : A → Members → Result B LimitFault) → ArePlain ms
      → ((d : Data) → IsPlain d → Gives (IsFlat n d) (content name d)) → ((a : A) (rest : Members) → rest ≡ without_member name ms → ArePlain rest → Gives (X → AreFlat n rest) (next a rest))
      → Gives (X → AreFlat n ms) (member_then name (optional absent content) ms next)
  gives_optional {A} {B} X name absent content ms next plain one later = by (get_member name ms) refl
    where
      by : (o : Option Data) → get_member name ms ≡ o → Gives (X → AreFlat n ms) (member_then name (optional absent content) ms next)
      by None is = rw is (gives_to _ _ (next absent (without_member name ms)) (λ rest x. flat_absent n name ms is (rest x)) (later absent (without_member name ms) refl (plain_without name ms plain)))
      by (Some d) is = rw is (
          gives_then (X → AreFlat n (without_member name ms)) (X → AreFlat n ms) (content name d) (λ a. next a (without_member name ms))
          (gives_to (IsFlat n d) _ (content name d) (λ flat rest x. flat_taken n name ms d plain is flat (rest x)) (one d (plain_member name ms d plain is)))
          (λ a. later a (without_member name ms) refl (plain_without name ms plain))
          )

  -- nothing is left
  pub gives_ended : (ms : Members) → ArePlain ms → Gives (AreFlat n ms) (ended ms)
  gives_ended no_members plain = tt
  gives_ended (member k d ms) plain = rw plain.0 (λ is. cc)

  pub gives_text : (name : List ℕ) (d : Data) → Gives (IsFlat n d) (text_in name d)
  gives_text name null = λ is. cc
  gives_text name (boolean b) = λ is. cc
  gives_text name (number x) = λ is. cc
  gives_text name (string s) = tt
  gives_text name (array ds) = λ is. cc
  gives_text name (object ms) = λ is. cc

  pub gives_flag : (name : List ℕ) (d : Data) → Gives (IsFlat n d) (flag_in name d)
  gives_flag name null = λ is. cc
  gives_flag name (boolean b) = tt
  gives_flag name (number x) = λ is. cc
  gives_flag name (string s) = λ is. cc
  gives_flag name (array ds) = λ is. cc
  gives_flag name (object ms) = λ is. cc

  pub gives_described : (ms : Members) → ArePlain ms → Gives (AreFlat n ms) (described ms)
  gives_described ms plain =
      gives_to _ _ (described ms) (λ all. all tt)
      (gives_optional (Unit {0}) (codes "description") tt remark_in ms (λ _ ms. ended ms) plain
      (λ d plain. gives_more _ (text_in (codes "description") d) (λ _. Ok tt) (gives_text (codes "description") d) (λ _. tt))
      (λ _ ms _ plain. gives_to _ _ (ended ms) (λ flat _. flat) (gives_ended ms plain)))

  -- ---- lists

  pub gives_each : {A : Type 0} (read : Data → Result A LimitFault) → ((d : Data) → IsPlain d → Gives (IsFlat n d) (read d)) → (ds : Items) → ArePlainItems ds → Gives (AreFlatItems n ds) (read_each read (items_list ds))
  gives_each read one no_items plain = tt
  gives_each {A} read one (item d ds) plain =
      gives_then (AreFlatItems n ds) (AreFlatItems n (item d ds)) (read d) (λ x. then_with (read_each read (items_list ds)) (λ xs. Ok (x ∷ xs)))
      (gives_to _ _ (read d) (λ flat rest. (flat, rest)) (one d plain.0))
      (λ x. gives_more _ (read_each read (items_list ds)) (λ xs. Ok (x ∷ xs)) (gives_each read one ds plain.1) (λ _. tt))

  pub gives_some : {A : Type 0} (name : List ℕ) (d : Data) (next : List Data → Result A LimitFault) → IsPlain d → ((ds : Items) → ArePlainItems ds → Gives (AreFlatItems n ds) (next (items_list ds)))
      → Gives (IsFlat (suc n) d) (then_with (some_in name d) next)
  gives_some name null next plain later = λ is. cc
  gives_some name (boolean b) next plain later = λ is. cc
  gives_some name (number x) next plain later = λ is. cc
  gives_some name (string s) next plain later = λ is. cc
  gives_some name (array no_items) next plain later = λ is. cc
  gives_some name (array (item d ds)) next plain later = later (item d ds) plain
  gives_some name (object ms) next plain later = λ is. cc

  pub gives_list : {A : Type 0} (name : List ℕ) (d : Data) (next : List Data → Result A LimitFault) → IsPlain d → ((ds : Items) → ArePlainItems ds → Gives (AreFlatItems n ds) (next (items_list ds)))
      → Gives (IsFlat (suc n) d) (then_with (in_json (list_of name d)) next)
  gives_list name null next plain later = λ is. cc
  gives_list name (boolean b) next plain later = λ is. cc
  gives_list name (number x) next plain later = λ is. cc
  gives_list name (string s) next plain later = λ is. cc
  gives_list name (array ds) next plain later = later ds plain
  gives_list name (object ms) next plain later = λ is. cc

  -- ---- the last of the members

  -- an object ends with a description, and a value is made of what was read
  pub ends_described : {A : Type 0} (X : Type 0) (ms : Members) (a : A) → ArePlain ms → Gives (X → AreFlat n ms) (then_with (described ms) (λ _. Ok a))
  ends_described X ms a plain = gives_to _ _ (then_with (described ms) (λ _. Ok a)) (λ flat _. flat) (gives_more (AreFlat n ms) (described ms) (λ _. Ok a) (gives_described ms plain) (λ _. tt))

  -- or without one
  pub ends : {A : Type 0} (X : Type 0) (ms : Members) (a : A) → ArePlain ms → Gives (X → AreFlat n ms) (then_with (ended ms) (λ _. Ok a))
  ends X ms a plain = gives_to _ _ (then_with (ended ms) (λ _. Ok a)) (λ flat _. flat) (gives_more (AreFlat n ms) (ended ms) (λ _. Ok a) (gives_ended ms plain) (λ _. tt))

-- ---- by the kind of a value

pub by_text : (P : Data → Type 0) → ((s : List ℕ) → P (string s)) → ((d : Data) → as_str d ≡ None → P d) → (d : Data) → P d
by_text P one others null = others null refl
by_text P one others (boolean b) = others (boolean b) refl
by_text P one others (number x) = others (number x) refl
by_text P one others (string s) = one s
by_text P one others (array ds) = others (array ds) refl
by_text P one others (object ms) = others (object ms) refl

-- where the members have to hold, all of them do
pub all_of : {A : Type 0} (G : Type 0) (r : Result A LimitFault) → Gives (Unit {0} → G) r → Gives G r
all_of G r gives = gives_to (Unit {0} → G) G r (λ all. all tt) gives
