-- Laws of the first format: what is read is written so, and what is written so is read again.
use Rattle.std.specs.Prelude.{◌==◌, ◌<◌, ◌≤◌, IfOk, IfSome, filter, get_or, is_some, length, take}
use Rattle.std.proofs.Common.{◌≡◌, ◌+◌, ℕ, zero, suc, Bool, true, false, cond, List, [], ◌∷◌, ◌++◌, Option, Some, None, Result, Ok, Err, map, refl, ap, ap₂, arith, sym, subst, ◌∙◌}
use Rattle.std.proofs.lemmas.List.{append-nil, map-append, take_more}
use Rattle.std.proofs.lemmas.List.Elements.{filter-append}
use Rattle.ps_time.specs.declared.key.RunKey.{RunKey}
use Rattle.run_states.specs.declared.row.RunRow.{RunRow}
use Rattle.host_model.specs.Book.{Book}
use Rattle.host_model.specs.declared.change.Change.{Change}
use Rattle.host_model.specs.declared.change.Change.TheVariants.{Accepted, LimitsSet, Planned, Purged}
use Rattle.value_bytes.specs.Changes.{FitsChange, change_cases, change_code, change_is, changes_of, parts_of_changes}
use Rattle.value_bytes.specs.Codec.{text}
use Rattle.value_bytes.specs.Gives.{Gives}
use Rattle.value_bytes.specs.Keys.{asker_is, key_is}
use Rattle.value_bytes.specs.Laws.{AreBytes, Begins, IsCodec, ReadAgain, ReadsCodes}
use Rattle.value_bytes.specs.ListLaws.{list_is}
use Rattle.value_bytes.specs.NumberLaws.{number_64_is, rest_are, signed_16_is}
use Rattle.value_bytes.specs.PairLaws.{behind_some, built_is, case_reads, made_again, no_case_reads, pair_is, some_is}
use Rattle.value_bytes.specs.Reading.{made_at, variant_at, whole_of}
use Rattle.value_bytes.specs.Rows.{row, row_is}
use Rattle.value_bytes.specs.Tasks.{task_row, task_row_is}
use Rattle.value_bytes.specs.Tests.{test_is}
use Rattle.value_bytes.specs.TextLaws.{text_is}
use Rattle.value_bytes.specs.declared.fault.CodeFault.{CodeFault}
use Rattle.host_codec.specs.FirstFormat.{FitsFirst, FitsFirstBook, IsFirst, IsFirstSnapshot, first_accepted, first_accepted_of, first_book, first_book_of, first_cases, first_change, first_changes, first_code, first_parts, first_parts_accepted, first_parts_codec, first_pairs, first_planned, first_planned_of, first_snapshot}

first_accepted_is : IsCodec first_accepted
first_accepted_is = pair_is (pair_is key_is (pair_is test_is text_is)) (pair_is (pair_is number_64_is (pair_is signed_16_is (list_is text text_is))) asker_is)

first_planned_is : IsCodec first_planned
first_planned_is = pair_is key_is (pair_is number_64_is text_is)

-- ---- what is written is read again
first_again : ReadAgain FitsFirst first_code (variant_at first_cases)
first_again (Accepted p participants epoch) rest fits =
    rw fits.1 (made_again first_accepted_of first_accepted_is (first_parts_accepted p participants) rest (fits.0.0, (fits.0.1.0, fits.0.1.1.0)))
first_again (Planned run start tool epoch) rest fits =
    rw fits.1 (made_again first_planned_of first_planned_is (run, (start, tool)) rest (fits.0.0, (fits.0.1.0, fits.0.1.1.0)))
first_again (LimitsSet config) rest fits = absurd fits.1
first_again (Purged run) rest fits = absurd fits.1
first_again c rest fits = change_is.again c rest fits.0

-- ---- what is read is written so
same_head : (n k : ℕ) (xs ys : List ℕ) → n ∷ xs ≡ k ∷ ys → n ≡ k
same_head n k xs ys e = cc

other_head : {A : Type 0} (n k : ℕ) (xs ys : List ℕ) → (n == k) ≡ false → n ∷ xs ≡ k ∷ ys → (k == k) ≡ true → A
other_head n k xs ys other e same = let not_same : (k == k) ≡ false = subst (λ j. (j == k) ≡ false) (same_head n k xs ys e) other in absurd cc

module _ (n : ℕ) (bytes rest : List ℕ) (three : (n == 3) ≡ false) (five : (n == 5) ≡ false) where
  others_begin : (x : Change) → Begins change_code (n ∷ bytes) x rest → Begins first_code (n ∷ bytes) x rest
  others_begin (Accepted p participants epoch) begins = other_head n 3 bytes _ three begins.parts refl
  others_begin (Planned run start tool epoch) begins = other_head n 5 bytes _ five begins.parts refl
  others_begin x begins = record { parts = begins.parts; are_bytes = begins.are_bytes }

  others_first : (x : Change) → (n == 17) ≡ false → (n == 18) ≡ false → Begins change_code (n ∷ bytes) x rest → IsFirst x
  others_first (Accepted p participants epoch) limits purged begins = other_head n 3 bytes _ three begins.parts refl
  others_first (Planned run start tool epoch) limits purged begins = other_head n 5 bytes _ five begins.parts refl
  others_first (LimitsSet config) limits purged begins = other_head n 17 bytes _ limits begins.parts refl
  others_first (Purged run) limits purged begins = other_head n 18 bytes _ purged begins.parts refl
  others_first x limits purged begins = tt

first_reads : ReadsCodes first_code (variant_at first_cases)
first_reads [] x rest are e = absurd cc
first_reads (n ∷ bytes) x rest are e = by (n == 3) (n == 5) (n == 17) (n == 18) refl refl refl refl e
  where
    by : (a b c d : Bool) → (n == 3) ≡ a → (n == 5) ≡ b → (n == 17) ≡ c → (n == 18) ≡ d
        → cond a (made_at first_accepted_of first_accepted.read bytes) (cond b (made_at first_planned_of first_planned.read bytes) (cond c None (cond d None (change_cases n bytes)))) ≡ Some (x, rest) → Begins first_code (n ∷ bytes) x rest
    by true b c d three five limits purged e = case_reads 3 first_accepted_of (λ p. refl) first_accepted_is (no_case_reads first_code) n bytes x rest (rest_are n bytes are) (rw three e)
    by false true c d three five limits purged e = case_reads 5 first_planned_of (λ p. refl) first_planned_is (no_case_reads first_code) n bytes x rest (rest_are n bytes are) (rw five e)
    by false false true d three five limits purged e = absurd cc
    by false false false true three five limits purged e = absurd cc
    by false false false false three five limits purged e = others_begin n bytes rest three five x (change_is.reads (n ∷ bytes) x rest are e)

pub first_change_is : IsCodec first_change
first_change_is = record { again = first_again; reads = first_reads }

pub first_changes_is : IsCodec first_changes
first_changes_is = built_is changes_of parts_of_changes (λ r. refl) (λ p. refl) (pair_is number_64_is (list_is first_change first_change_is))

-- what is read behind another number is of the first format
are_cons : (n : ℕ) (bytes : List ℕ) → n < 256 → AreBytes bytes → AreBytes (n ∷ bytes)
are_cons n bytes low are zero = low
are_cons n bytes low are (suc i) = are i

pub others_fit : (n : ℕ) (bytes rest : List ℕ) (x : Change) → n < 256 → AreBytes bytes → (n == 3) ≡ false → (n == 5) ≡ false → (n == 17) ≡ false → (n == 18) ≡ false → change_cases n bytes ≡ Some (x, rest) → FitsChange x → FitsFirst x
others_fit n bytes rest x low are three five limits purged e fits = (fits, others_first n bytes rest three five x limits purged (change_is.reads (n ∷ bytes) x rest (are_cons n bytes low are) e))

-- ---- snapshots
first_parts_is : IsCodec first_parts_codec
first_parts_is = pair_is number_64_is (pair_is (list_is task_row task_row_is) (list_is row row_is))

made_back : (b : Book) → FitsFirstBook b → first_book_of (first_parts b) ≡ b
made_back b fits = ap₂ (λ epochs pairs. record b { epochs = epochs; pairs = pairs }) (sym fits.epochs) (sym fits.pairs)

first_book_again : ReadAgain first_book.Fits first_book.code first_book.read
first_book_again b rest fits = rw (first_parts_is.again (first_parts b) rest fits.parts, made_back b fits) refl

first_book_reads : ReadsCodes first_book.code first_book.read
first_book_reads bytes b rest are e =
    let p = behind_some (first_parts_codec.read bytes) (λ a last. Some (first_book_of a, last)) (b, rest) e in
    let begins = first_parts_is.reads bytes p.0.0 p.0.1 are p.1 in
    subst (λ (y : Book × List ℕ). Begins first_book.code bytes y.0 y.1) (some_is (first_book_of p.0.0, p.0.1) (b, rest) p.2)
    (record { parts = begins.parts; are_bytes = begins.are_bytes })

pub first_book_is : IsCodec first_book
first_book_is = record { again = first_book_again; reads = first_book_reads }

-- ---- the pairs of rows, one after another
abbrev pair_of : RunRow → RunKey × ℕ
pair_of r = (r.key, 0)

module _ (rows : List RunRow) (i : ℕ) (r : RunRow) (within : i < length rows) (is : r ≡ get_or rows i r) where
  one_more : first_pairs (take (i + 1) rows) ≡ first_pairs (take i rows) ++ map pair_of (cond (is_some r.accepted) (r ∷ []) [])
  one_more =
      ap first_pairs (take_more rows i r within ∙ ap (λ x. take i rows ++ x ∷ []) (sym is))
      ∙ (ap (map pair_of) (filter-append (λ x. is_some x.accepted) (take i rows) (r ∷ [])) ∙ map-append pair_of (filter (λ x. is_some x.accepted) (take i rows)) (cond (is_some r.accepted) (r ∷ []) []))

  pub pair_more : is_some r.accepted ≡ true → first_pairs (take (i + 1) rows) ≡ first_pairs (take i rows) ++ (r.key, 0) ∷ []
  pair_more accepted = one_more ∙ ap (λ b. first_pairs (take i rows) ++ map pair_of (cond b (r ∷ []) [])) accepted

  pub pair_same : is_some r.accepted ≡ false → first_pairs (take (i + 1) rows) ≡ first_pairs (take i rows)
  pair_same accepted = one_more ∙ (ap (λ b. first_pairs (take i rows) ++ map pair_of (cond b (r ∷ []) [])) accepted ∙ append-nil (first_pairs (take i rows)))

-- ---- what a reader of the second format answers for the other tags
pub others_kept : {X : Type 0} (view : X → Change × List ℕ) (answer : Result X CodeFault) (n : ℕ) (bytes : List ℕ) → n < 256 → AreBytes bytes → (n == 3) ≡ false → (n == 5) ≡ false → (n == 17) ≡ false → (n == 18) ≡ false
    → Gives view answer (change_cases n bytes) → IfOk answer (λ x. FitsChange (view x).0) → IfOk answer (λ x. FitsFirst (view x).0)
others_kept view (Ok x) n bytes low are three five limits purged gives fits = others_fit n bytes (view x).1 (view x).0 low are three five limits purged gives fits
others_kept view (Err fault) n bytes low are three five limits purged gives fits = tt

-- ---- a snapshot of some bytes
some_found : (o : Option Book) (x : ℕ) (bytes : List ℕ) → IfSome o (λ b. FitsFirstBook b × (x ∷ bytes ≡ first_book.code b)) → IfSome o (IsFirstSnapshot (x ∷ bytes))
some_found (Some b) x bytes found = found
some_found None x bytes found = tt

pub snapshot_found : {E : Type 0} (answer : Result (Option Book) E) (bytes : List ℕ) → 1 ≤ length bytes → IfOk answer (λ o. IfSome o (λ b. FitsFirstBook b × (bytes ≡ first_book.code b))) → IfOk answer (λ o. IfSome o (IsFirstSnapshot bytes))
snapshot_found answer [] some found = absurd (omega (arith, some))
snapshot_found (Ok o) (x ∷ bytes) some found = some_found o x bytes found
snapshot_found (Err fault) (x ∷ bytes) some found = tt

pub snapshot_only : {E : Type 0} (answer : Result (Option Book) E) (bytes : List ℕ) → 1 ≤ length bytes → IfOk answer (λ o. (b : Book) → FitsFirstBook b → bytes ≡ first_book.code b → o ≡ Some b) → IfOk answer (λ o. (b : Book) → IsFirstSnapshot bytes b → o ≡ Some b)
snapshot_only answer [] some only = absurd (omega (arith, some))
snapshot_only (Ok o) (x ∷ bytes) some only = λ b is. only b is.0 is.1
snapshot_only (Err fault) (x ∷ bytes) some only = tt

pub snapshot_exact : {E : Type 0} (answer : Result (Option Book) E) (bytes : List ℕ) → 1 ≤ length bytes → IfOk answer (λ o. o ≡ whole_of (first_book.read bytes)) → IfOk answer (λ o. o ≡ first_snapshot bytes)
snapshot_exact answer [] some exact = absurd (omega (arith, some))
snapshot_exact (Ok o) (x ∷ bytes) some exact = exact
snapshot_exact (Err fault) (x ∷ bytes) some exact = tt
