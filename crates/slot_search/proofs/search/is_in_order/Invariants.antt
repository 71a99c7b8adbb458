use Rattle.std.proofs.Common.{◌≤◌}
use Rattle.std.specs.List.{AllAdjacentBelow}
use Rattle.slot_search.proofs.search.is_in_order.Given as goal

-- so it is so far
abbrev pub invariant-loop-at : goal.invariant-loop-at
invariant-loop-at l = AllAdjacentBelow (λ x y. (x.first ≤ y.first) × (x.last ≤ y.last)) l.windows l.at
