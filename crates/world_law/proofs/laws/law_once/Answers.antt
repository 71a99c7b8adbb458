use Rattle.host_model.proofs.StepFollows.{step_follows}
use Rattle.world_law.proofs.Agreeing.{once_law}
use Rattle.world_law.proofs.laws.law_once.Goals as goal

pub returns : goal.returns
returns c = once_law step_follows
