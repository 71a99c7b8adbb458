use Rattle.std.proofs.Common.{◌≡◌, ◌/◌, ◌++◌, map, take, drop}
use Rattle.base_tests.proofs.item_tests.halve.Given as goal

abbrev pub invariant-loop-item : goal.invariant-loop-item
invariant-loop-item l = l.item-items ≡ map (λ n. n / 2) (take l.item-index l.initial.item-items) ++ drop l.item-index l.initial.item-items
