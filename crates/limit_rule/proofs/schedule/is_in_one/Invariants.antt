use Rattle.std.proofs.Common.{◌≡◌, drop}
use Rattle.limit_rule.specs.Schedule.{in_one}
use Rattle.limit_rule.proofs.schedule.is_in_one.Given as goal

-- what is left decides
abbrev pub invariant-loop-range : goal.invariant-loop-range
invariant-loop-range l = in_one l.ranges l.number ≡ in_one (drop l.range-index l.ranges) l.number
