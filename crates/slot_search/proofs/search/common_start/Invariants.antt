use Rattle.std.proofs.Common.{◌≡◌, ◌+◌, ◌-◌}
use Rattle.std.specs.List.{find, range_with_len}
use Rattle.slot_search.specs.Search.{in_all}
use Rattle.ps_time.specs.Starts.{least_start}
use Rattle.slot_search.proofs.search.common_start.Given as goal

-- what is left decides
abbrev pub invariant-loop-from : goal.invariant-loop-from
invariant-loop-from l = find (in_all l.second l.lists) (range_with_len l.from (l.window.last + 1 - l.from)) ≡ least_start (in_all l.second l.lists) l.window

abbrev pub decreases-loop-from : goal.decreases-loop-from
decreases-loop-from l = l.window.last + 1 - l.from
