use Rattle.std.proofs.Common.{◌≡◌, drop}
use Rattle.slot_search.specs.Search.{lesser, next_in}
use Rattle.slot_search.proofs.search.next_in.Given as goal

-- the least so far, or what is left decides
abbrev pub invariant-loop-window : goal.invariant-loop-window
invariant-loop-window l = lesser l.least (next_in (drop l.window-index l.windows) l.from) ≡ next_in l.fn.windows l.fn.from
