use Rattle.std.proofs.Common.{◌≡◌, drop}
use Rattle.slot_search.specs.Search.{next_in_all}
use Rattle.slot_search.proofs.search.next_in_all.Given as goal

-- what is left decides, from the start that was come to
abbrev pub invariant-loop-tiers : goal.invariant-loop-tiers
invariant-loop-tiers l = next_in_all l.second (drop l.tiers-index l.lists) l.start ≡ next_in_all l.fn.second l.fn.lists l.fn.from
