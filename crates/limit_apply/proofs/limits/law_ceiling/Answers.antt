use Rattle.limit_apply.proofs.CeilingLemmas.{ceiling_within}
use Rattle.limit_apply.proofs.limits.law_ceiling.Goals as goal

pub returns : goal.returns
returns c = λ config asker kept. ceiling_within config asker kept.priorities
