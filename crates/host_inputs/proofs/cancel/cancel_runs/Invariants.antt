use Rattle.std.proofs.Common.{◌≡◌, ◌++◌, length}
use Rattle.host_inputs.specs.Runs.{canceled_runs, keys_after, runs_of_task}
use Rattle.host_inputs.proofs.cancel.cancel_runs.Given as goal

-- the changes so far, and those of the runs above the last one
abbrev pub invariant-loop-key : goal.invariant-loop-key
invariant-loop-key g l =
    let rows = g.R.Reading.seen l.book in
    let runs = runs_of_task l.lead l.serial rows in
    l.list ++ canceled_runs l.lead l.serial rows (keys_after l.last runs) ≡ l.initial.list ++ canceled_runs l.lead l.serial rows runs

abbrev pub decreases-loop-key : goal.decreases-loop-key
decreases-loop-key g l = length (keys_after l.last (runs_of_task l.lead l.serial (g.R.Reading.seen l.book)))
