-- Records and snapshots of the first format, in which no epochs stood. They are only read.
use Rattle.std.specs.Prelude.{◌∷◌, ◌≡◌, List, None, Option, Some, [], filter, is_some, map, ℕ, ℤ}
use Rattle.ps_time.specs.declared.asker.Asker.{Asker}
use Rattle.ps_time.specs.declared.key.RunKey.{RunKey}
use Rattle.plugin_core.specs.declared.test_spec.TestSpec.{TestSpec}
use Rattle.run_states.specs.declared.proposal.Proposal.{Proposal}
use Rattle.run_states.specs.declared.row.RunRow.{RunRow}
use Rattle.host_model.specs.Book.{Book, empty_book}
use Rattle.host_model.specs.declared.change.Change.{Change}
use Rattle.host_model.specs.declared.change.Change.TheVariants.{Accepted, LimitsSet, Planned, Purged}
use Rattle.host_model.specs.declared.change.Changes.{Changes}
use Rattle.host_model.specs.declared.task_row.TaskRow.{TaskRow}
use Rattle.value_bytes.specs.Changes.{FitsChange, change_cases, change_code, changes_of, parts_of_changes}
use Rattle.value_bytes.specs.Codec.{◌&◌, Codec, built, list, number_64, signed_16, text, variant}
use Rattle.value_bytes.specs.Keys.{asker, key}
use Rattle.value_bytes.specs.Reading.{case_at, made_at, whole_of}
use Rattle.value_bytes.specs.Rows.{row}
use Rattle.value_bytes.specs.Tasks.{task_row}
use Rattle.value_bytes.specs.Tests.{test}

-- ---- changes: those of the second format, but an acceptance and a plan name no epoch, limits aren't set, and no row goes
abbrev pub FirstAcceptedParts : Type 0
FirstAcceptedParts = (RunKey × (TestSpec × List ℕ)) × ((ℕ × (ℤ × List (List ℕ))) × Asker)

abbrev pub first_accepted : Codec FirstAcceptedParts
first_accepted = (key & (test & text)) & ((number_64 & (signed_16 & list text)) & asker)

-- what was accepted in the first format has the epoch 0
abbrev pub first_accepted_of : FirstAcceptedParts → Change
first_accepted_of = λ p. Accepted (record { key = p.0.0; test = p.0.1.0; tool = p.0.1.1; start = p.1.0.0; priority = p.1.0.1.0; asker = p.1.1 }) p.1.0.1.1 0

abbrev pub first_parts_accepted : Proposal → List (List ℕ) → FirstAcceptedParts
first_parts_accepted p participants = ((p.key, (p.test, p.tool)), ((p.start, (p.priority, participants)), p.asker))

abbrev pub first_planned : Codec (RunKey × (ℕ × List ℕ))
first_planned = key & (number_64 & text)

abbrev pub first_planned_of : RunKey × (ℕ × List ℕ) → Change
first_planned_of = λ p. Planned p.0 p.1.0 p.1.1 0

-- the first format has it
abbrev pub IsFirst : Change → Type 0
IsFirst (Accepted p participants epoch) = epoch ≡ 0
IsFirst (Planned run start tool epoch) = epoch ≡ 0
IsFirst (LimitsSet config) = ⊥
IsFirst (Purged run) = ⊥
IsFirst _ = Unit {0}

abbrev pub FitsFirst : Change → Type 0
FitsFirst c = FitsChange c × IsFirst c

abbrev pub first_code : Change → List ℕ
first_code (Accepted p participants epoch) = 3 ∷ first_accepted.code (first_parts_accepted p participants)
first_code (Planned run start tool epoch) = 5 ∷ first_planned.code (run, (start, tool))
first_code c = change_code c

-- bytes of no value
abbrev pub no_value_at : List ℕ → Option (Change × List ℕ)
no_value_at bytes = None

abbrev pub first_cases : ℕ → List ℕ → Option (Change × List ℕ)
first_cases =
    case_at 3 (made_at first_accepted_of first_accepted.read) (
    case_at 5 (made_at first_planned_of first_planned.read) (
    case_at 17 no_value_at (
    case_at 18 no_value_at change_cases)))

abbrev pub first_change : Codec Change
first_change = variant FitsFirst FitsFirst first_code first_cases

-- ---- a record: its moment, and the list of its changes
abbrev pub first_changes : Codec Changes
first_changes = built changes_of parts_of_changes (number_64 & list first_change)

-- ---- a snapshot: nothing at all of the empty book; or else the moment, the tasks and the rows
-- each accepted row is of the epoch 0
abbrev pub first_pairs : List RunRow → List (RunKey × ℕ)
first_pairs rows = map (λ r. (r.key, 0)) (filter (λ r. is_some r.accepted) rows)

abbrev pub FirstParts : Type 0
FirstParts = ℕ × (List TaskRow × List RunRow)

abbrev pub first_book_of : FirstParts → Book
first_book_of p = record { moment = p.0; epochs = []; pairs = first_pairs p.1.1; tasks = p.1.0; rows = p.1.1 }

abbrev pub first_parts : Book → FirstParts
first_parts b = (b.moment, (b.tasks, b.rows))

abbrev pub first_parts_codec : Codec FirstParts
first_parts_codec = number_64 & (list task_row & list row)

-- a book of the first format
pub record FitsFirstBook (b : Book) : Type 0 where
  pub parts : first_parts_codec.Fits (first_parts b)
  pub epochs : b.epochs ≡ []
  pub pairs : b.pairs ≡ first_pairs b.rows

abbrev pub first_book : Codec Book
first_book = record { Writable = FitsFirstBook; Fits = FitsFirstBook; code = λ b. first_parts_codec.code (first_parts b); read = made_at first_book_of first_parts_codec.read }

-- the bytes are the snapshot of the book
abbrev pub IsFirstSnapshot : List ℕ → Book → Type 0
IsFirstSnapshot [] b = b ≡ empty_book
IsFirstSnapshot (x ∷ bytes) b = FitsFirstBook b × (x ∷ bytes ≡ first_book.code b)

-- the book of a snapshot
abbrev pub first_snapshot : List ℕ → Option Book
first_snapshot [] = Some empty_book
first_snapshot (b ∷ bytes) = whole_of (first_book.read (b ∷ bytes))
