-- Laws of options and lists. Proved here, since an `impl` cites them.
use Rattle.std.specs.Prelude.{◌++◌, ◌^◌, ◌∷◌, ◌≡◌, All, List, None, Option, Some, [], length, refl, suc, zero, ℕ}
use Rattle.std.specs.Int.{to_be_bytes, w32}
use Rattle.std.specs.List.{flat_map}
use Rattle.std.proofs.Common.{◌∙◌, sym, ap, subst, append_assoc}
use Rattle.std.proofs.lemmas.List.Concat.{flat_map-cons}
use Rattle.std.proofs.lemmas.List.Elements.{All-head, All-tail}
use Rattle.value_bytes.specs.Codec.{Codec, list, option, option_code}
use Rattle.value_bytes.specs.Laws.{AreBytes, Begins, IsCodec, ReadAgain, ReadsCodes}
use Rattle.value_bytes.specs.NumberLaws.{number_again, number_reads, rest_are, wide_32}
use Rattle.value_bytes.specs.PairLaws.{begins_then, behind_some, some_is}
use Rattle.value_bytes.specs.Reading.{behind, list_at, number_at, option_at, times_at}

module _ {A : Type 0} (c : Codec A) (is : IsCodec c) where
  -- ---- options
  option_reads : ReadsCodes (option_code c.code) (option_at c.read)
  option_reads [] x rest are e = absurd cc
  option_reads (zero ∷ bytes) x rest are e =
      subst (λ (y : Option A × List ℕ). Begins (option_code c.code) (0 ∷ bytes) y.0 y.1) (some_is (None, bytes) (x, rest) e) (record { parts = refl; are_bytes = rest_are 0 bytes are })
  option_reads (suc zero ∷ bytes) x rest are e =
      let p = behind_some (c.read bytes) (λ a last. Some (Some a, last)) (x, rest) e in
      let first = is.reads bytes p.0.0 p.0.1 (rest_are 1 bytes are) p.1 in
      subst (λ (y : Option A × List ℕ). Begins (option_code c.code) (1 ∷ bytes) y.0 y.1) (some_is (Some p.0.0, p.0.1) (x, rest) p.2)
      (record { parts = ap (λ (t : List ℕ). 1 ∷ t) first.parts; are_bytes = first.are_bytes })
  option_reads (suc (suc b) ∷ bytes) x rest are e = absurd cc

  option_again : ReadAgain (option c).Fits (option_code c.code) (option_at c.read)
  option_again None rest fits = refl
  option_again (Some x) rest fits = rw (is.again x rest fits) refl

  pub option_is : IsCodec (option c)
  option_is = record { again = option_again; reads = option_reads }

  -- ---- lists
  times_reads : (n : ℕ) (bytes : List ℕ) (xs : List A) (rest : List ℕ) → AreBytes bytes → times_at c.read n bytes ≡ Some (xs, rest) → Begins (flat_map c.code) bytes xs rest × (length xs ≡ n)
  times_reads zero bytes xs rest are e =
      subst (λ (y : List A × List ℕ). Begins (flat_map c.code) bytes y.0 y.1 × (length y.0 ≡ 0)) (some_is ([], bytes) (xs, rest) e) (record { parts = refl; are_bytes = are }, refl)
  times_reads (suc n) bytes xs rest are e =
      let p = behind_some (c.read bytes) (λ a after. behind (times_at c.read n after) (λ others last. Some (a ∷ others, last))) (xs, rest) e in
      let q = behind_some (times_at c.read n p.0.1) (λ others last. Some (p.0.0 ∷ others, last)) (xs, rest) p.2 in
      let first = is.reads bytes p.0.0 p.0.1 are p.1 in
      let others = times_reads n p.0.1 q.0.0 q.0.1 first.are_bytes q.1 in
      let both = begins_then c.code (flat_map c.code) bytes p.0.1 q.0.1 p.0.0 q.0.0 first others.0 in
      subst (λ (y : List A × List ℕ). Begins (flat_map c.code) bytes y.0 y.1 × (length y.0 ≡ suc n)) (some_is (p.0.0 ∷ q.0.0, q.0.1) (xs, rest) q.2)
      (record { parts = rw (flat_map-cons c.code p.0.0 q.0.0) both.parts; are_bytes = both.are_bytes }, ap suc others.1)

  times_again : (xs : List A) (rest : List ℕ) → All c.Fits xs → times_at c.read (length xs) (flat_map c.code xs ++ rest) ≡ Some (xs, rest)
  times_again [] rest fits = refl
  times_again (x ∷ xs) rest fits =
      let split : flat_map c.code (x ∷ xs) ++ rest ≡ c.code x ++ (flat_map c.code xs ++ rest) = rw (flat_map-cons c.code x xs) (append_assoc (c.code x) (flat_map c.code xs) rest) in
      ap (times_at c.read (length (x ∷ xs))) split ∙ rw (is.again x (flat_map c.code xs ++ rest) (All-head c.Fits x xs fits), times_again xs rest (All-tail c.Fits x xs fits)) refl

  list_reads : ReadsCodes (list c).code (list c).read
  list_reads bytes xs rest are e =
      let p = behind_some (number_at w32 bytes) (λ n after. times_at c.read n after) (xs, rest) e in
      let first = (number_reads w32 (2 ^ 32) wide_32 bytes p.0.0 p.0.1 are p.1).0 in
      let others = times_reads p.0.0 p.0.1 xs rest first.are_bytes p.2 in
      let both = begins_then (to_be_bytes w32) (flat_map c.code) bytes p.0.1 rest p.0.0 xs first others.0 in
      record { parts = subst (λ (k : ℕ). bytes ≡ (to_be_bytes w32 k ++ flat_map c.code xs) ++ rest) (sym others.1) both.parts; are_bytes = both.are_bytes }

  list_again : ReadAgain (list c).Fits (list c).code (list c).read
  list_again xs rest fits =
      ap (list_at c.read) (append_assoc (to_be_bytes w32 (length xs)) (flat_map c.code xs) rest)
      ∙ rw (number_again w32 (2 ^ 32) wide_32 (length xs) (flat_map c.code xs ++ rest) fits.0) (times_again xs rest fits.1)

  pub list_is : IsCodec (list c)
  list_is = record { again = list_again; reads = list_reads }
