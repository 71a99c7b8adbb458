use Rattle.std.proofs.Common.{◌≡◌, drop}
use Rattle.limit_rule.specs.Limit.{is_listed}
use Rattle.limit_rule.proofs.limit.is_listed.Given as goal

-- what is left decides
abbrev pub invariant-loop-other : goal.invariant-loop-other
invariant-loop-other l = is_listed l.kind l.kinds ≡ is_listed l.kind (drop l.other-index l.kinds)
