use Rattle.std.proofs.Common.{◌≡◌, ℕ, zero, suc, ◌/◌, ◌<◌, List, [], ◌∷◌, ◌++◌, length, map, take, drop, refl, ap, add-one, arith}
use Rattle.std.specs.Prelude.{slice_set, slice_index_or}
use Rattle.base_tests.proofs.item_tests.halve.Goals as goal

-- one more item is halved
one_more : (xs : List ℕ) (i : ℕ) → i < length xs → slice_set (map (λ n. n / 2) (take i xs) ++ drop i xs) i (slice_index_or (map (λ n. n / 2) (take i xs) ++ drop i xs) i 0 / 2) ≡ map (λ n. n / 2) (take (suc i) xs) ++ drop (suc i) xs
one_more [] i h = absurd (omega arith)
one_more (x ∷ xs) zero h = refl
one_more (x ∷ xs) (suc i) h = ap (λ t. x / 2 ∷ t) (one_more xs i (omega arith))

pub loop-item-preserved : goal.loop-item-preserved
loop-item-preserved c = rw (c.loop-item.invariant, add-one) (one_more c.as_mut_slice-item-items.result.now c.loop-item.item-index (omega arith))
