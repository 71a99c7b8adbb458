use Rattle.std.proofs.Common.{arith}
use Rattle.host_model.specs.Lawful.{IsLawfulTask}
use Rattle.row_check.proofs.AllLeft.{goes_on}
use Rattle.book_check.proofs.tasks.are_lawful_tasks.Goals as goal

pub loop-task-preserved : goal.loop-task-preserved
loop-task-preserved c = goes_on (IsLawfulTask c.args.moment) c.args.tasks.now c.loop-task.task-index c.task-item.result (omega arith) c.task-item.is (c.is_lawful_task.ensures.0 c.if-not-is_lawful_task.false) c.loop-task.invariant
