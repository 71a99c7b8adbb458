use Rattle.std.proofs.Common.{◌∙◌, arith}
use Rattle.ps_time.proofs.MapLemmas.{map_more}
use Rattle.host_model.specs.Apply.{close_task}
use Rattle.host_book.proofs.indexed.close_task.Goals as goal

-- one more task is changed
pub loop-task-preserved : goal.loop-task-preserved
loop-task-preserved c = rw c.close_one.ensures (c.loop-task.invariant ∙ map_more (close_task c.args.moment c.args.serial) c.loop-task.tasks c.loop-task.task-index c.task-item.result (omega arith))
