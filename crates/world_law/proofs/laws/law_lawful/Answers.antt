use Rattle.host_model.proofs.StepFollows.{step_follows}
use Rattle.world_law.proofs.Keeping.{lawful_law}
use Rattle.world_law.proofs.laws.law_lawful.Goals as goal

pub returns : goal.returns
returns c = lawful_law step_follows
