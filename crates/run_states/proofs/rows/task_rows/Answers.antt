use Rattle.std.proofs.Common.{◌≡◌, ◌∙◌, take, true, false, sym, ap, subst}
use Rattle.std.specs.List.Sorted.{IsPartitionPoint}
use Rattle.run_states.specs.Rows.{IsAscendingRows}
use Rattle.run_states.specs.TaskRows.{is_of_task}
use Rattle.run_states.proofs.TaskLemmas.{ascending_drop, of_task_part}
use Rattle.run_states.proofs.rows.task_rows.Goals as goal

pub in_task-requires-clause-ascending : goal.in_task-requires-clause-ascending
in_task-requires-clause-ascending c = subst IsAscendingRows (sym c.from-rest.ensures) (ascending_drop c.args.rows.now c.before_task.result c.requires)

pub returns : goal.returns
returns c =
    let of = subst (λ l. IsPartitionPoint (λ r. is_of_task c.args.lead c.args.serial r ≡ true) (λ r. is_of_task c.args.lead c.args.serial r ≡ false) l c.in_task.result) c.from-rest.ensures c.in_task.ensures.parted in
    c.until.ensures ∙ ap (take c.in_task.result) c.from-rest.ensures ∙ of_task_part c.args.lead c.args.serial c.args.rows.now c.before_task.result c.in_task.result c.before_task.ensures.parted of
