use Rattle.live_law.proofs.AwakeLemmas.{awake_same}
use Rattle.live_law.proofs.waking.law_awake.Goals as goal

pub returns : goal.returns
returns call = awake_same
