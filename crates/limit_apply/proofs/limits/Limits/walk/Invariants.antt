use Rattle.std.proofs.Common.{◌≡◌, drop}
use Rattle.limit_apply.specs.Limits.{verdict_at, written_from, first_verdict}
use Rattle.limit_apply.proofs.limits.Limits.walk.Given as goal

-- what is left decides
abbrev pub invariant-loop-index : goal.invariant-loop-index
invariant-loop-index l = verdict_at l.self l.asker l.test l.run ≡ first_verdict (written_from l.self l.asker l.test l.run l.index (drop l.index l.self.applications))
