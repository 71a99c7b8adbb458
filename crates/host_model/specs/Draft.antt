-- A turn as it is made: over a draft, for each key in order one more change, while there is place. It is the turn: see
-- `turned_is` of `proofs/DraftLemmas`.
use Rattle.std.specs.Prelude.{◌++◌, ◌-◌, ◌∷◌, List, None, Option, Some, [], if◌then◌else◌, map, nat_le, option_and_then, suc, zero, ℕ}
use Rattle.ps_time.specs.Numbers.{most_changes}
use Rattle.run_states.specs.Rows.{find_row}
use Rattle.run_states.specs.declared.row.RunRow.{RunRow}
use Rattle.host_model.specs.Apply.{apply}
use Rattle.host_model.specs.Book.{Book, find_task, keys_of_rows}
use Rattle.host_model.specs.Ending.{end_run}
use Rattle.host_model.specs.Merging.{merge_run}
use Rattle.host_model.specs.NextAttempt.{ask}
use Rattle.host_model.specs.Plan.{plan_run}
use Rattle.host_model.specs.Purging.{purge_run}
use Rattle.host_model.specs.RecordLength.{change_bytes, record_bytes}
use Rattle.host_model.specs.Starting.{start_run}
use Rattle.host_model.specs.Turn.{most_record_bytes}
use Rattle.host_model.specs.declared.change.Change.{Change}
use Rattle.host_model.specs.declared.config.Config.{Config}
use Rattle.host_model.specs.declared.task_row.TaskRow.{TaskRow}

pub record Draft : Type 0 where
  -- with the changes applied
  pub book : Book
  -- in order
  pub changes : List Change
  -- how many more may be made; none once the turn has ended
  pub places : ℕ
  -- how many bytes they may take
  pub left : ℕ

-- at first
abbrev pub fresh : Book → Draft
fresh b = record { book = b; changes = []; places = most_changes; left = most_record_bytes - record_bytes [] }

-- one change later, with so many places more
abbrev pub made : ℕ → Change → Draft → ℕ → Draft
made m c d places = record { book = apply m c d.book; changes = d.changes ++ c ∷ []; places = places; left = d.left - change_bytes c }

-- a change that the record has no room for ends the turn
abbrev pub ended : Draft → Draft
ended d = record { book = d.book; changes = d.changes; places = 0; left = d.left }

-- with so many places
abbrev pub make_with : ℕ → Change → Draft → ℕ → Draft
make_with m c d zero = d
make_with m c d (suc n) = if nat_le (change_bytes c) d.left then made m c d n else ended d

-- the change that is wished for, if there is one, while there is place
abbrev pub make : ℕ → Option Change → Draft → Draft
make m None d = d
make m (Some c) d = make_with m c d d.places

-- for each of these, in order
abbrev pub make_each : {K : Type 0} → (Book → K → Option Change) → ℕ → List K → Draft → Draft
make_each wish m [] d = d
make_each wish m (k ∷ ks) d = make_each wish m ks (make m (wish d.book k) d)

-- for each row, by key
abbrev pub make_rows : (Book → RunRow → Option Change) → ℕ → Draft → Draft
make_rows wish m d = make_each (λ b k. option_and_then (wish b) (find_row b.rows k)) m (keys_of_rows d.book.rows) d

-- for each task, by serial
abbrev pub make_tasks : (Book → TaskRow → Option Change) → ℕ → Draft → Draft
make_tasks wish m d = make_each (λ b serial. option_and_then (wish b) (find_task b.tasks serial)) m (map (λ t. t.serial) d.book.tasks) d

-- the six groups
abbrev pub turned : Config → ℕ → Draft → Draft
turned c m d = make_rows (purge_run c m) m (make_tasks (ask c m) m (make_rows (plan_run c m) m (make_rows (start_run m) m (make_rows (merge_run c m) m (make_rows (end_run c m) m d)))))
