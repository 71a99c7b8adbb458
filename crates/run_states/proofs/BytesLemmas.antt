-- Numbers that are added up as far as their type goes.
use Rattle.std.proofs.Common.{◌≡◌, ℕ, zero, suc, ◌+◌, ◌≤◌, List, [], ◌∷◌, length, drop, map, min, refl, arith}
use Rattle.std.specs.Prelude.{sum}

module _ {X : Type 0} (f : X → ℕ) (most : ℕ) where
  none_left : (xs : List X) (i : ℕ) → length xs ≤ i → sum (map f (drop i xs)) ≡ 0
  none_left [] zero le = refl
  none_left [] (suc i) le = refl
  none_left (x ∷ xs) zero le = absurd (omega arith)
  none_left (x ∷ xs) (suc i) le = none_left xs i (omega arith)

  -- all are counted
  pub count_end : (xs : List X) (i total whole : ℕ) → length xs ≤ i → total ≤ most → min (total + sum (map f (drop i xs))) most ≡ whole → total ≡ whole
  count_end xs i total whole le low is = omega (arith, none_left xs i le, is)
