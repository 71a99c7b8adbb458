-- A part of a list that is cut is no longer than the list.
use Rattle.std.specs.List.{onto_first, slice_split}
use Rattle.std.proofs.Common.{◌∷◌, ◌≤◌, Bool, List, [], arith, cond, false, get_or, length, suc, true, zero, ℕ}

abbrev AreWithin : ℕ → List (List ℕ) → Type 0
AreWithin n parts = (i : ℕ) → length (get_or parts i []) ≤ n

onto_within : (x : ℕ) (parts : List (List ℕ)) (n : ℕ) → AreWithin n parts → AreWithin (suc n) (onto_first x parts)
onto_within x [] n short zero = omega arith
onto_within x [] n short (suc i) = omega arith
onto_within x (part ∷ parts) n short zero = omega (arith, short zero)
onto_within x (part ∷ parts) n short (suc i) = omega (arith, short (suc i))

cut_within : (parts : List (List ℕ)) (n : ℕ) → AreWithin n parts → AreWithin (suc n) ([] ∷ parts)
cut_within parts n short zero = omega arith
cut_within parts n short (suc i) = omega (arith, short i)

pub part_short : (p : ℕ → Bool) (xs : List ℕ) (i : ℕ) → length (get_or (slice_split p xs) i []) ≤ length xs
part_short p [] zero = omega arith
part_short p [] (suc i) = omega arith
part_short p (x ∷ xs) i = go (p x) (part_short p xs) i
  where
    go : (b : Bool) → AreWithin (length xs) (slice_split p xs) → AreWithin (suc (length xs)) (cond b ([] ∷ slice_split p xs) (onto_first x (slice_split p xs)))
    go true short = cut_within (slice_split p xs) (length xs) short
    go false short = onto_within x (slice_split p xs) (length xs) short
