use Rattle.host_model.proofs.StepFollows.{step_follows}
use Rattle.world_law.proofs.Agreeing.{backed_law}
use Rattle.world_law.proofs.laws.law_backed.Goals as goal

pub returns : goal.returns
returns c = backed_law step_follows
