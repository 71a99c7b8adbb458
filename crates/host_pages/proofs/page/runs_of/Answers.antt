use Rattle.std.proofs.Common.{◌∙◌, ◌++◌, ap}
use Rattle.std.specs.List.{filter_map}
use Rattle.host_inputs.specs.Runs.{runs_of_task}
use Rattle.host_pages.specs.Walks.{run_at}
use Rattle.host_pages.proofs.ShownLemmas.{runs_are}
use Rattle.host_pages.proofs.page.runs_of.Goals as goal

pub returns : goal.returns
returns g c =
    let rows = g.R.Reading.seen c.args.book.now in
    c.in_ok-add_runs.ensures.list
    ∙ (ap (λ l. l ++ filter_map (run_at rows) (runs_of_task c.args.lead c.args.serial rows)) c.new-runs.ensures
    ∙ runs_are c.args.lead c.args.serial rows c.add_runs.ensures.ascending)
