use Rattle.task_spec.proofs.ShapeLemmas.{task_whole, task_flat}
use Rattle.task_spec.proofs.task.Task.write.Goals as goal

pub returns-clause-whole : goal.returns-clause-whole
returns-clause-whole c = rw c.in_ok-value.ensures (task_whole c.args.self.now c.requires.rest)

pub returns-clause-flat : goal.returns-clause-flat
returns-clause-flat c = rw c.in_ok-value.ensures (task_flat c.args.self.now c.requires.rest)
