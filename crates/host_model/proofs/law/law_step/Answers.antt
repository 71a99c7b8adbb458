use Rattle.host_model.proofs.RecordBound.{step_short}
use Rattle.host_model.proofs.StepFollows.{step_follows, step_lawful}
use Rattle.host_model.proofs.StepGrown.{step_grown}
use Rattle.host_model.proofs.law.law_step.Goals as goal

pub returns : goal.returns
returns call = record { lawful = step_lawful; grown = step_grown; follows = step_follows; short = step_short }
