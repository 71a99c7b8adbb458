-- A machine that is kept on two disks in memory, as those see it who let calls of the disks fail.
use Rattle.std.specs.Prelude.{ℕ, ◌+◌, ◌-◌, ◌==◌, Bool, true, false, not, if◌then◌else◌, List, [], ◌∷◌, ◌++◌, length, Option, None, Some, option_map, Result, Ok, Err}
use Rattle.host_journal.specs.declared.reading.Counted.{Counted}
use Rattle.host_journal.specs.declared.reading.DiskPlace.{DiskPlace}
use Rattle.machine_keep.specs.Kept.{is_many}

-- ---- places
-- whether the second disk counts, its generation, the bytes of its snapshot, and those of its records, each with a length and a gate byte
pub record Place : Type 0 where
  pub second : Bool
  pub generation : ℕ
  pub snapshot : ℕ
  pub records : ℕ

abbrev pub place_at : Counted → Place
place_at k = record { second = k.second; generation = k.generation; snapshot = k.start - 21; records = k.end - k.start }

-- of what two disks stand for, where they stand for anything
abbrev pub place_of : Result Counted DiskPlace → Place
place_of (Ok k) = place_at k
place_of (Err at) = record { second = false; generation = 0; snapshot = 0; records = 0 }

-- behind a record of so many bytes
abbrev pub with_record : Place → ℕ → Place
with_record p bytes = record { second = p.second; generation = p.generation; snapshot = p.snapshot; records = p.records + 5 + bytes }

-- behind a snapshot of so many bytes: it stands on the other disk, alone, in the next generation
abbrev pub with_snapshot : Place → ℕ → Place
with_snapshot p bytes = record { second = not p.second; generation = p.generation + 1; snapshot = bytes; records = 0 }

-- with a record of so many bytes the records are many
abbrev pub is_many_at : Place → ℕ → Bool
is_many_at p bytes = is_many (p.records + 5 + bytes) p.snapshot

-- behind a step with a record and a snapshot of so many bytes, where it has them
abbrev pub place_after : Place → Option ℕ → Option ℕ → Place
place_after p None snapshot = p
place_after p (Some record_bytes) None = with_record p record_bytes
place_after p (Some record_bytes) (Some snapshot_bytes) = with_snapshot p snapshot_bytes

-- ---- what is held
-- What no sync has made sure of since a call of a disk failed. Until this disk is synced, or both are, a crash may leave what stands for
-- this state, and is this place.
pub record Unsynced (S : Type 0) : Type 0 where
  pub second : Bool
  pub state : S
  pub place : Place

-- The state for which the disks stand as they read, and their place; whether the last call met no fault, and what is unsynced since; and
-- of each disk the number of the call that is to fail, counted from 1 from now on (0: none).
pub record Held (S : Type 0) : Type 0 where
  pub state : S
  pub place : Place
  pub ready : Bool
  pub unsynced : Option (Unsynced S)
  pub first : ℕ
  pub second : ℕ

-- with this as what is fixed
abbrev pub configured : {S F : Type 0} → (F → S → S) → F → Held S → Held S
configured {S} with_fixed f h = record h { state = with_fixed f h.state; unsynced = option_map {T = Unsynced S} (λ l. record l { state = with_fixed f l.state }) h.unsynced }

-- of each disk the call of this number is to fail
abbrev pub armed_at : {S : Type 0} → Held S → ℕ → Held S
armed_at h n = record h { first = n; second = n }

-- ---- the calls of a step, each by its disk: whether that is the second
-- where the last call met a fault, first a sync of each
abbrev pub syncs : Bool → List Bool
syncs true = []
syncs false = false ∷ true ∷ []

-- then the four of a record
abbrev pub four : Bool → List Bool
four second = second ∷ second ∷ second ∷ second ∷ []

-- and the seven of a snapshot
abbrev pub seven : Bool → List Bool
seven second = second ∷ second ∷ second ∷ four second

-- the most that a step makes
abbrev pub schedule : {S : Type 0} → Held S → List Bool
schedule h = syncs h.ready ++ (four h.place.second ++ seven (not h.place.second))

-- the first of these calls that is to fail, counted from 1
abbrev pub failing : ℕ → ℕ → List Bool → Option ℕ
failing first second [] = None
failing first second (false ∷ calls) = if first == 1 then Some 1 else option_map (λ n. n + 1) (failing (first - 1) second calls)
failing first second (true ∷ calls) = if second == 1 then Some 1 else option_map (λ n. n + 1) (failing first (second - 1) calls)

abbrev pub fault_at : {S : Type 0} → Held S → Option ℕ
fault_at h = failing h.first h.second (schedule h)

-- how many calls a step makes with a record, and with a snapshot behind it
abbrev pub calls_of : {A B : Type 0} → Bool → Option A → Option B → ℕ
calls_of ready None snapshot = length (syncs ready)
calls_of ready (Some payload) None = length (syncs ready) + 4
calls_of ready (Some payload) (Some image) = length (syncs ready) + 11

-- how many of these calls are of the first disk, and of the second
abbrev pub on_first : List Bool → ℕ
on_first [] = 0
on_first (second ∷ calls) = if second then on_first calls else 1 + on_first calls

abbrev pub on_second : List Bool → ℕ
on_second [] = 0
on_second (second ∷ calls) = if second then 1 + on_second calls else on_second calls
