-- The rules that every book keeps to which steps under one host number lead.
use Rattle.std.specs.List.{range_with_len}
use Rattle.std.specs.Prelude.{◌≡◌, ◌≢◌, ◌≤◌, All, IsFalse, IsTrue, List, Some, filter, is_some, length, map, ℕ}
use Rattle.ps_time.specs.Class.{clash}
use Rattle.ps_time.specs.Span.{Span}
use Rattle.ps_time.specs.declared.key.RunKey.{RunKey}
use Rattle.ps_time.specs.Numbers.{greatest_moment, most_rows, most_tasks}
use Rattle.plugin_core.specs.TestSpec.{test_class}
use Rattle.limit_apply.specs.Read.{IsKept}
use Rattle.run_states.specs.Life.{is_booked}
use Rattle.run_states.specs.Rows.{IsAscendingRows, find_row}
use Rattle.run_states.specs.declared.row.RunRow.{RunRow}
use Rattle.run_states.specs.LawfulRow.{IsUpTo}
use Rattle.task_spec.specs.Bounds.{IsTask}
use Rattle.host_model.specs.Book.{Book, keys_of_rows}
use Rattle.host_model.specs.declared.task_row.TaskRow.{TaskRow}
use Rattle.host_model.specs.LawfulRow.{IsHostRow}

-- of no two booked rows do the classes conflict and the intervals overlap
abbrev pub NoClash : List RunRow → Type 0
NoClash rows = (j k : RunKey) (r s : RunRow) (a b : Span) → j ≢ k → find_row rows j ≡ Some r → find_row rows k ≡ Some s →
    IsTrue (is_booked r) → IsTrue (is_booked s) → r.interval ≡ Some a → s.interval ≡ Some b → IsFalse (clash (test_class r.test) a (test_class s.test) b)

-- the asker's server is the task's lead
pub record IsLawfulTask (m : ℕ) (t : TaskRow) : Type 0 where
  pub task : IsTask t.asker.server t.task
  pub posted : t.posted ≤ m
  pub closed : IsUpTo m t.closed

-- one for each accepted row, ascending by key, and none above the count of epochs
pub record ArePairs (b : Book) : Type 0 where
  pub keys : map (λ p. p.0) b.pairs ≡ keys_of_rows (filter (λ r. is_some r.accepted) b.rows)
  pub known : All (λ p. p.1 ≤ length b.epochs) b.pairs

-- a book of the host with this number
pub record Lawful (self : ℕ) (b : Book) : Type 0 where
  pub moment : b.moment ≤ greatest_moment
  -- each epoch's limits are read again from their text
  pub epochs : All IsKept b.epochs
  pub few_tasks : length b.tasks ≤ most_tasks
  pub serials : map (λ t. t.serial) b.tasks ≡ range_with_len 1 (length b.tasks)
  pub tasks : All (IsLawfulTask b.moment) b.tasks
  pub few_rows : length b.rows ≤ most_rows
  pub ascending : IsAscendingRows b.rows
  pub rows : All (IsHostRow self b.tasks b.moment) b.rows
  pub no_clash : NoClash b.rows
  pub pairs : ArePairs b
