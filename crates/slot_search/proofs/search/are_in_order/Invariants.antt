use Rattle.std.proofs.Common.{take}
use Rattle.slot_search.specs.Search.{AreInOrder}
use Rattle.slot_search.proofs.search.are_in_order.Given as goal

-- so it is so far
abbrev pub invariant-loop-tiers : goal.invariant-loop-tiers
invariant-loop-tiers l = AreInOrder l.second (take l.tiers-index l.lists)
