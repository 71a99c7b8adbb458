use Rattle.std.proofs.Common.{◌≡◌, ◌++◌, take, drop, map}
use Rattle.host_model.specs.Apply.{close_task}
use Rattle.host_book.proofs.indexed.close_task.Given as goal

-- the tasks so far are changed, and those that are left are as they were
abbrev pub invariant-loop-task : goal.invariant-loop-task
invariant-loop-task l = map (close_task l.moment l.serial) l.initial.tasks ≡ take l.task-index l.tasks ++ map (close_task l.moment l.serial) (drop l.task-index l.tasks)
