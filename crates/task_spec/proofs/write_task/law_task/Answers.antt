use Rattle.task_spec.proofs.TaskLemmas.{task_back}
use Rattle.task_spec.proofs.write_task.law_task.Goals as goal

pub returns : goal.returns
returns c = task_back c.law_length_text.ensures c.law_moment_text.ensures c.law_test.ensures
