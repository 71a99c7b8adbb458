use Rattle.std.proofs.Common.{◌∙◌, ◌++◌, ap}
use Rattle.host_inputs.specs.Kept.{book_of}
use Rattle.host_inputs.specs.Runs.{canceled_runs, runs_of_task}
use Rattle.host_inputs.proofs.CancelLemmas.{canceled_are}
use Rattle.host_inputs.proofs.cancel.cancel_changes.Goals as goal

pub returns : goal.returns
returns g c =
    let rows = g.R.Reading.seen c.args.book.now in
    let m = g.R.Reading.at c.args.book.now in
    let t = c.args.task.now in
    c.in_ok-cancel_runs.ensures.list
    ∙ (ap (λ l. l ++ canceled_runs c.args.lead t.serial rows (runs_of_task c.args.lead t.serial rows)) (c.in_ok-list.ensures ∙ c.close_task.ensures)
    ∙ canceled_are c.args.lead m t (book_of m rows (g.R.Hosting.kept c.args.book.now)) c.cancel_runs.ensures.ascending)
