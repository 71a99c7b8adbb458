use Rattle.std.proofs.Common.{◌≡◌, ◌++◌, length}
use Rattle.std.specs.List.{filter_map}
use Rattle.host_model.specs.Book.{keys_of_rows}
use Rattle.host_inputs.specs.Kept.{book_of}
use Rattle.host_inputs.specs.Runs.{keys_after}
use Rattle.host_core.specs.Restarts.{restart_at}
use Rattle.host_core.proofs.opening.add_restarts.Given as goal

-- the changes so far, and those of the runs above the last one
abbrev pub invariant-loop-key : goal.invariant-loop-key
invariant-loop-key g l =
    let rows = g.R.Reading.seen l.book in
    let keys = keys_of_rows rows in
    let ends = filter_map (restart_at l.config (book_of (g.R.Reading.at l.book) rows (g.R.Hosting.kept l.book))) in
    l.list ++ ends (keys_after l.last keys) ≡ l.initial.list ++ ends keys

abbrev pub decreases-loop-key : goal.decreases-loop-key
decreases-loop-key g l = length (keys_after l.last (keys_of_rows (g.R.Reading.seen l.book)))
