-- A walk over the runs of one task, from key to key, and which of them canceling closes.
use Rattle.std.specs.Prelude.{List, Option, filter, filter_map, find, option_and_then, ℕ}
use Rattle.ps_time.specs.declared.key.RunKey.{RunKey}
use Rattle.run_states.specs.Rows.{find_row}
use Rattle.run_states.specs.TaskRows.{rows_of_task}
use Rattle.run_states.specs.declared.row.RunRow.{RunRow}
use Rattle.host_timeline.specs.Booking.{is_after}
use Rattle.host_model.specs.Book.{keys_of_rows}
use Rattle.host_model.specs.Post.{cancel_run}
use Rattle.host_model.specs.declared.change.Change.{Change}
use Rattle.lead_core.specs.Books.{book_of_rows}

-- those of the keys that are above another
abbrev pub keys_after : Option RunKey → List RunKey → List RunKey
keys_after after keys = filter (is_after after) keys

-- the runs of this lead's task with this serial, ascending
abbrev pub runs_of_task : ℕ → ℕ → List RunRow → List RunKey
runs_of_task lead serial rows = keys_of_rows (rows_of_task lead serial rows)

-- the least of them above another
abbrev pub next_run : ℕ → ℕ → Option RunKey → List RunRow → Option RunKey
next_run lead serial after rows = find (is_after after) (runs_of_task lead serial rows)

-- what canceling the task changes in the run of a key
abbrev pub canceled_run : ℕ → ℕ → List RunRow → RunKey → Option Change
canceled_run lead serial rows k = option_and_then (cancel_run lead serial (book_of_rows rows)) (find_row rows k)

-- and in the runs of these keys
abbrev pub canceled_runs : ℕ → ℕ → List RunRow → List RunKey → List Change
canceled_runs lead serial rows keys = filter_map (canceled_run lead serial rows) keys
