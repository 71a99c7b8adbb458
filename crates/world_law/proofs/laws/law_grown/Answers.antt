use Rattle.host_model.proofs.StepFollows.{step_follows}
use Rattle.world_law.proofs.Keeping.{grown_law}
use Rattle.world_law.proofs.laws.law_grown.Goals as goal

pub returns : goal.returns
returns c = grown_law step_follows
