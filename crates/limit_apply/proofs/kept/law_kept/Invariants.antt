use Rattle.std.proofs.Common.{All, take}
use Rattle.limit_apply.specs.Read.{IsKept}
use Rattle.limit_apply.proofs.kept.law_kept.Given as goal

-- each so far
abbrev pub invariant-loop-limits : goal.invariant-loop-limits
invariant-loop-limits l = All IsKept (take l.limits-index l.epochs)
