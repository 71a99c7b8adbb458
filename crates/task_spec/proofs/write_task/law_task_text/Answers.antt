use Rattle.task_spec.proofs.LengthLemmas.{task_short}
use Rattle.task_spec.proofs.write_task.law_task_text.Goals as goal

pub returns : goal.returns
returns c = task_short
