use Rattle.host_model.proofs.StepFollows.{step_follows}
use Rattle.world_law.proofs.Agreeing.{accepted_law}
use Rattle.world_law.proofs.laws.law_accepted.Goals as goal

pub returns : goal.returns
returns c = accepted_law step_follows
