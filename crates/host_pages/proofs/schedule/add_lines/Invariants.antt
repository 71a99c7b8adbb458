use Rattle.std.proofs.Common.{◌≡◌, ◌++◌, length}
use Rattle.std.specs.List.{filter_map}
use Rattle.host_model.specs.Book.{keys_of_rows}
use Rattle.host_inputs.specs.Runs.{keys_after}
use Rattle.host_pages.specs.Walks.{line_at}
use Rattle.host_pages.proofs.schedule.add_lines.Given as goal

-- the lines so far, and those of the runs above the last one
abbrev pub invariant-loop-key : goal.invariant-loop-key
invariant-loop-key g l =
    let rows = g.R.Reading.seen l.book in
    let keys = keys_of_rows rows in
    let shown = filter_map (line_at (g.R.Reading.at l.book) (record { start = l.start; end = l.end }) rows) in
    l.lines.items ++ shown (keys_after l.last keys) ≡ l.initial.lines.items ++ shown keys

abbrev pub decreases-loop-key : goal.decreases-loop-key
decreases-loop-key g l = length (keys_after l.last (keys_of_rows (g.R.Reading.seen l.book)))
