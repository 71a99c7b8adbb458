use Rattle.host_model.proofs.StepFollows.{step_follows}
use Rattle.world_law.proofs.Agreeing.{safe_law}
use Rattle.world_law.proofs.laws.law_safe.Goals as goal

pub returns : goal.returns
returns c = safe_law step_follows
