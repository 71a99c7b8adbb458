use Rattle.std.proofs.Common.{◌≡◌, drop}
use Rattle.limit_apply.specs.Limits.{ceiling_of, greatest, held_ceilings}
use Rattle.limit_apply.proofs.limits.Limits.greatest_ceiling.Given as goal

-- what is left decides
abbrev pub invariant-loop-entry : goal.invariant-loop-entry
invariant-loop-entry l = ceiling_of l.self l.asker ≡ greatest l.greatest (held_ceilings l.self l.asker (drop l.entry-index l.self.priorities.ceilings))
