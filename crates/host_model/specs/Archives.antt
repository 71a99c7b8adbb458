-- The archives of merged runs: which are due, and what an attempt leaves.
use Rattle.std.specs.Prelude.{◌+◌, ◌∷◌, Bool, List, None, Option, Some, [], flat_map, if◌then◌else◌, is_some, option_and_then, slice_get, ℕ}
use Rattle.ps_time.specs.declared.key.RunKey.{RunKey}
use Rattle.archive_retry.specs.Retry.{is_due, state_after}
use Rattle.archive_retry.specs.declared.state.ArchiveState.{ArchiveState}
use Rattle.run_states.specs.Rows.{find_row}
use Rattle.run_states.specs.declared.row.RunRow.{RunRow}
use Rattle.task_spec.specs.declared.task.Archive.{Archive}
use Rattle.host_model.specs.Book.{Book, moment_at}
use Rattle.host_model.specs.Effect.{archives_of}
use Rattle.host_model.specs.Propose.{answered}
use Rattle.host_model.specs.declared.change.Change.TheVariants.{Tried}
use Rattle.host_model.specs.declared.lead.Due.{Due}
use Rattle.host_model.specs.declared.reply.Outcome.{Outcome}
use Rattle.host_model.specs.declared.reply.Reply.TheVariants.{NotFound, Archive as archive_reply}

-- ---- what is due
-- the archives of a row from an index on that are due at m
abbrev pub due_from_index : RunKey → ℕ → ℕ → List ArchiveState → List (RunKey × ℕ)
due_from_index k m index [] = []
due_from_index k m index (s ∷ ss) = if is_due s m then (k, index) ∷ due_from_index k m (index + 1) ss else due_from_index k m (index + 1) ss

-- every pair of a run and an archive that is due at m, by key and then index
abbrev pub due_pairs : List RunRow → ℕ → List (RunKey × ℕ)
due_pairs rows m = flat_map (λ r. due_from_index r.key m 0 r.archives) rows

-- those of a book at a clock
abbrev pub due : Book → ℕ → List (RunKey × ℕ)
due b clock = due_pairs b.rows (moment_at b clock)

-- ---- one archive
-- its state, where the run is merged and has that archive
abbrev pub state_at_index : RunRow → ℕ → Option ArchiveState
state_at_index r index = if is_some r.merged then slice_get r.archives index else None

-- where it is merged, has that state, and its task has that archive
abbrev pub attempt_with : RunRow → ℕ → Option (List ℕ) → Option ArchiveState → Option Archive → Option Due
attempt_with r index (Some merged) (Some s) (Some a) =
    Some (record { key = r.key; index = index; tried = s.tried; archiver = a.archiver; settings = a.settings; merged = merged })
attempt_with r index _ _ _ = None

-- the attempt that may be made at an archive, if there is one
abbrev pub attempt_of : Book → RunKey → ℕ → Option Due
attempt_of b k index = option_and_then (λ r. attempt_with r index r.merged (state_at_index r index) (slice_get (archives_of b.tasks k) index)) (find_row b.rows k)

-- ---- an attempt was made at m
abbrev pub tried_to : RunKey → ℕ → ArchiveState → Outcome
tried_to k index s = record { reply = archive_reply s; list = Tried k index s ∷ [] }

-- an archive that isn't due stays as it is
abbrev pub try_at : ℕ → RunKey → ℕ → Bool → Option ℕ → Option ArchiveState → Option Archive → Outcome
try_at m k index good retry (Some s) (Some a) = if is_due s m then tried_to k index (state_after a.policy s m retry good) else answered (archive_reply s)
try_at m k index good retry _ _ = answered NotFound

-- of the run of this key, at this index
abbrev pub try_archive : Book → ℕ → RunKey → ℕ → Bool → Option ℕ → Outcome
try_archive b m k index good retry =
    try_at m k index good retry (option_and_then (λ r. state_at_index r index) (find_row b.rows k)) (slice_get (archives_of b.tasks k) index)
