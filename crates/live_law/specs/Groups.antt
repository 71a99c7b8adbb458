-- A turn whose groups over rows go over these keys alone, but for the last.
use Rattle.std.specs.List.{list_any}
use Rattle.std.specs.Prelude.{◌||◌, Bool, List, None, Option, Some, false, filter, option_and_then, ℕ}
use Rattle.ps_time.specs.declared.key.RunKey.{RunKey}
use Rattle.run_states.specs.Purging.{is_long_past}
use Rattle.run_states.specs.Rows.{find_row}
use Rattle.run_states.specs.TaskRows.{newest_row}
use Rattle.run_states.specs.declared.row.RunRow.{RunRow}
use Rattle.host_model.specs.Book.{Book, keys_of_rows}
use Rattle.host_model.specs.Draft.{Draft, make_each, make_rows, make_tasks}
use Rattle.host_model.specs.Ending.{end_run}
use Rattle.host_model.specs.Merging.{merge_run}
use Rattle.host_model.specs.NextAttempt.{ask}
use Rattle.host_model.specs.Plan.{plan_run}
use Rattle.host_model.specs.Purging.{purge_run}
use Rattle.host_model.specs.Starting.{start_run}
use Rattle.host_model.specs.declared.change.Change.{Change}
use Rattle.host_model.specs.declared.change.Change.TheVariants.{Asked}
use Rattle.host_model.specs.declared.config.Config.{Config}
use Rattle.host_rows.specs.Still.{is_live_by}

-- for the row of each of these keys, in order
abbrev pub make_keys : (Book → RunRow → Option Change) → ℕ → List RunKey → Draft → Draft
make_keys wish m ks d = make_each (λ b k. option_and_then (wish b) (find_row b.rows k)) m ks d

-- the first five groups: all but the purging
abbrev pub turned_most : Config → ℕ → List RunKey → Draft → Draft
turned_most c m live d =
    make_tasks (ask c m) m (make_keys (plan_run c m) m live (make_keys (start_run m) m live (make_keys (merge_run c m) m live (make_keys (end_run c m) m live d))))

-- the six groups
abbrev pub turned_over : Config → ℕ → List RunKey → Draft → Draft
turned_over c m live d = make_rows (purge_run c m) m (turned_most c m live d)

-- the keys of the rows that may go at m: those that are live by then, and those that are long past
abbrev pub going_keys : ℕ → ℕ → List RunRow → List RunKey
going_keys self m rows = keys_of_rows (filter (λ r. is_long_past m r || is_live_by self m r) rows)

-- the same, where the last goes over these keys
abbrev pub turned_by : Config → ℕ → List RunKey → List RunKey → Draft → Draft
turned_by c m live keys d = make_keys (purge_run c m) m keys (turned_most c m live d)

-- the run that the change asks about
abbrev pub asked_key : Change → Option RunKey
asked_key (Asked q participants asker) = Some q.key
asked_key _ = None

-- there is a row, and it is long past at m
abbrev pub is_past_at : ℕ → Option RunRow → Bool
is_past_at m None = false
is_past_at m (Some r) = is_long_past m r

-- the newest of these rows of the task of a run that is asked about, if there is one, is long past at m: the run may let it go
abbrev pub lets_go : ℕ → List RunRow → Option RunKey → Bool
lets_go m rows None = false
lets_go m rows (Some k) = is_past_at m (newest_row k.lead k.task rows)

-- so does one of the changes
abbrev pub let_go : ℕ → List RunRow → List Change → Bool
let_go m rows xs = list_any (λ x. lets_go m rows (asked_key x)) xs
