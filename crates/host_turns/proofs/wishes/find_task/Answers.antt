use Rattle.std.proofs.Common.{◌≡◌, ◌+◌, ◌-◌, ◌∙◌, ap, sym, arith}
use Rattle.host_model.specs.Book.{find_task}
use Rattle.host_turns.proofs.TaskLemmas.{none_below, serial_found}
use Rattle.host_turns.proofs.wishes.find_task.Goals as goal

-- no task has the serial 0
pub returns-then-serial-eq0 : goal.returns-then-serial-eq0
returns-then-serial-eq0 c = sym (none_below c.args.tasks.now 1 c.args.serial c.requires (omega arith))

-- the task stands at its place
pub returns : goal.returns
returns c =
    let tasks = c.args.tasks.now in
    let at : 1 + (c.args.serial - 1) ≡ c.args.serial = omega arith in
    c.task_at.ensures ∙ (sym (serial_found tasks 1 (c.args.serial - 1) c.requires) ∙ ap (find_task tasks) at)
