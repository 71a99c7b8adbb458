use Rattle.live_law.proofs.WakingLemmas.{none_asleep}
use Rattle.live_law.proofs.waking.law_asleep.Goals as goal

pub returns : goal.returns
returns call = none_asleep
