use Rattle.std.proofs.Common.{◌≡◌, ◌-◌, Some, length, ap, ◌∙◌, sym}
use Rattle.std.specs.List.{slice_get}
use Rattle.std.specs.Option.{option_copied}
use Rattle.run_states.specs.TaskRows.{is_of_task, rows_of_task}
use Rattle.run_states.proofs.TaskLemmas.{last_get, last_passing}
use Rattle.run_states.proofs.rows.newest_in.Goals as goal

pub returns : goal.returns
returns c =
    c.back-2.ensures ∙ (ap (λ xs. slice_get xs (length xs - 1)) c.task_rows.ensures ∙ last_get (rows_of_task c.args.lead c.args.serial c.args.rows.now))

pub returns-then-is_of_task : goal.returns-then-is_of_task
returns-then-is_of_task c =
    let rows = c.args.rows.now in
    let last : slice_get rows (length rows - 1) ≡ Some c.in-Some.row.now = sym c.back.ensures ∙ ap option_copied c.in-Some.is in
    sym (last_passing (is_of_task c.args.lead c.args.serial) c.in-Some.row.now (sym c.is_of_task.ensures ∙ c.if-is_of_task.true) rows last)
