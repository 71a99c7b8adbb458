use Rattle.std.proofs.Common.{arith}
use Rattle.limit_apply.proofs.KeptLemmas.{one_more}
use Rattle.limit_apply.proofs.kept.law_kept.Goals as goal

pub loop-limits-preserved : goal.loop-limits-preserved
loop-limits-preserved c = one_more c.args.epochs.now c.loop-limits.limits-index c.limits-item.result (omega arith) c.limits-item.is c.loop-limits.invariant c.law_one_kept.ensures
