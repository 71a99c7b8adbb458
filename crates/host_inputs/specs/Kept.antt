-- What a host keeps in its book beside the rows.
use Rattle.std.specs.Prelude.{All, List, ℕ}
use Rattle.ps_time.specs.declared.key.RunKey.{RunKey}
use Rattle.archive_retry.specs.Bounds.{IsPolicy}
use Rattle.limit_apply.specs.Limits.{LimitsConfig as Limits}
use Rattle.run_states.specs.declared.row.RunRow.{RunRow}
use Rattle.task_spec.specs.declared.task.Archive.{Archive}
use Rattle.host_model.specs.Book.{Book}
use Rattle.host_model.specs.declared.task_row.TaskRow.{TaskRow}

-- a book without its rows and its moment
pub record BesideRows : Type 0 where
  -- the limits that were set, numbered from 1
  pub epochs : List Limits
  -- for each accepted run the number of its epoch
  pub pairs : List (RunKey × ℕ)
  -- with the serials 1, 2, 3 and so on
  pub tasks : List TaskRow

-- the book of a host that keeps this beside its rows
abbrev pub book_of : ℕ → List RunRow → BesideRows → Book
book_of m rows kept = record { moment = m; epochs = kept.epochs; pairs = kept.pairs; tasks = kept.tasks; rows = rows }

-- the archive is tried again within bounds
abbrev pub HasPolicy : Archive → Type 0
HasPolicy a = IsPolicy a.policy

-- so are all archives of the task
abbrev pub HasPolicies : TaskRow → Type 0
HasPolicies t = All HasPolicy t.task.archives
