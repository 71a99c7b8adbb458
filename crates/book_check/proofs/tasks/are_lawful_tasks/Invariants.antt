use Rattle.std.specs.Prelude.{◌↔◌}
use Rattle.std.proofs.Common.{All, drop}
use Rattle.host_model.specs.Lawful.{IsLawfulTask}
use Rattle.book_check.proofs.tasks.are_lawful_tasks.Given as goal

-- what is left decides
abbrev pub invariant-loop-task : goal.invariant-loop-task
invariant-loop-task l = All (IsLawfulTask l.moment) (drop l.task-index l.tasks) ↔ All (IsLawfulTask l.moment) l.tasks
