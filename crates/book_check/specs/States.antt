-- The states of a run's archives, beside the archives of its task.
use Rattle.std.specs.Prelude.{◌∷◌, ◌≡◌, List, Some, [], slice_get, ℕ}
use Rattle.archive_retry.specs.Bounds.{IsStateOf}
use Rattle.archive_retry.specs.declared.state.ArchiveState.{ArchiveState}
use Rattle.task_spec.specs.declared.task.Archive.{Archive}

-- each state is one of the archive in its place
abbrev pub AreStates : List Archive → List ArchiveState → Type 0
AreStates archives states = (i : ℕ) (a : Archive) (s : ArchiveState) → slice_get archives i ≡ Some a → slice_get states i ≡ Some s → IsStateOf a.policy s

-- the same, one after another
abbrev pub AreEachStates : List Archive → List ArchiveState → Type 0
AreEachStates [] states = Unit {0}
AreEachStates (a ∷ archives) [] = Unit {0}
AreEachStates (a ∷ archives) (s ∷ states) = IsStateOf a.policy s × AreEachStates archives states
