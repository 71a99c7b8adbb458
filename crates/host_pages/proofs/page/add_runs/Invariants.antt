use Rattle.std.proofs.Common.{◌≡◌, ◌++◌, length}
use Rattle.std.specs.List.{filter_map}
use Rattle.host_inputs.specs.Runs.{keys_after, runs_of_task}
use Rattle.host_pages.specs.Walks.{run_at}
use Rattle.host_pages.proofs.page.add_runs.Given as goal

-- the runs so far, and those above the last one
abbrev pub invariant-loop-key : goal.invariant-loop-key
invariant-loop-key g l =
    let rows = g.R.Reading.seen l.book in
    let keys = runs_of_task l.lead l.serial rows in
    l.runs ++ filter_map (run_at rows) (keys_after l.last keys) ≡ l.initial.runs ++ filter_map (run_at rows) keys

abbrev pub decreases-loop-key : goal.decreases-loop-key
decreases-loop-key g l = length (keys_after l.last (runs_of_task l.lead l.serial (g.R.Reading.seen l.book)))
