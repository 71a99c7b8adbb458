use Rattle.std.proofs.Common.{◌≤◌}
use Rattle.host_timeline.proofs.lane.first_from.Given as goal

abbrev pub invariant-loop-place : goal.invariant-loop-place
invariant-loop-place l = l.first ≤ l.place
