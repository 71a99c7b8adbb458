use Rattle.std.proofs.Common.{◌≡◌, ◌++◌, length}
use Rattle.run_states.specs.Preemption.{conflicts}
use Rattle.host_model.specs.Book.{keys_of_rows}
use Rattle.host_inputs.specs.Runs.{keys_after}
use Rattle.host_inputs.proofs.booking.conflicts.Given as goal

-- the keys so far, and those above the last one
abbrev pub invariant-loop-key : goal.invariant-loop-key
invariant-loop-key g l =
    let all = keys_of_rows (conflicts l.run l.class l.interval (g.R.Reading.seen l.book)) in
    l.keys ++ keys_after l.last all ≡ all

abbrev pub decreases-loop-key : goal.decreases-loop-key
decreases-loop-key g l = length (keys_after l.last (keys_of_rows (conflicts l.run l.class l.interval (g.R.Reading.seen l.book))))
