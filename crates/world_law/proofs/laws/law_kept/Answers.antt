use Rattle.host_model.proofs.StepFollows.{step_follows}
use Rattle.world_law.proofs.KeptAnswers.{kept_law}
use Rattle.world_law.proofs.laws.law_kept.Goals as goal

pub returns : goal.returns
returns c = kept_law step_follows
