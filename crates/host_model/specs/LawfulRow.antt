-- The rules that each row of a lawful book keeps: those of the row alone, and those of its lead and its task.
use Rattle.std.specs.Prelude.{◌≡◌, IsSome, List, None, Option, Some, length, slice_get, ℕ}
use Rattle.archive_retry.specs.Bounds.{IsStateOf}
use Rattle.archive_retry.specs.declared.state.ArchiveState.{ArchiveState}
use Rattle.run_states.specs.LawfulRow.{IsLawfulRow}
use Rattle.run_states.specs.declared.row.RunRow.{RunRow}
use Rattle.task_spec.specs.declared.task.Archive.{Archive}
use Rattle.host_model.specs.Book.{find_task}
use Rattle.host_model.specs.Effect.{archives_of}
use Rattle.host_model.specs.declared.task_row.TaskRow.{TaskRow}

-- what this host has asked about it leads, for one of its tasks; its other rows with its own number are bookings
abbrev pub HasLead : ℕ → List TaskRow → RunRow → Option ℕ → Type 0
HasLead self tasks r (Some asked) = (r.key.lead ≡ self) × IsSome (find_task tasks r.key.task)
HasLead self tasks r None = r.key.lead ≡ self → (r.key.task ≡ 0) × (length r.participants ≡ 1)

-- what is merged is of this host's lead, and has one state for each archive of its task
abbrev pub HasStates : ℕ → List Archive → RunRow → Option (List ℕ) → Type 0
HasStates self archives r None = Unit {0}
HasStates self archives r (Some text) = (r.key.lead ≡ self) × (length r.archives ≡ length archives)

-- a row of the host with this number, whose tasks are these and whose latest moment is m
pub record IsHostRow (self : ℕ) (tasks : List TaskRow) (m : ℕ) (r : RunRow) : Type 0 where
  pub row : IsLawfulRow m r
  pub lead : HasLead self tasks r r.asked
  pub merged : HasStates self (archives_of tasks r.key) r r.merged
  pub archives : (i : ℕ) (a : Archive) (s : ArchiveState) → slice_get (archives_of tasks r.key) i ≡ Some a → slice_get r.archives i ≡ Some s → IsStateOf a.policy s
