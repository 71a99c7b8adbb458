-- What a crash leaves of a step that stops at one of its calls.
use Rattle.std.specs.Prelude.{◌≡◌, ℕ, ◌-◌, ◌<◌, ◌&&◌, nat_lt, Bool, not, if◌then◌else◌, List, length, Option, None, Some, IfSome, option_map, Result, Ok}
use Rattle.ps_disks.specs.declared.image.Image.{Image}
use Rattle.ps_disks.specs.declared.image.Image.TheVariants.{New}
use Rattle.host_journal.specs.Crash.{is_new, opens_head}
use Rattle.host_journal.specs.declared.reading.Counted.{Counted}
use Rattle.host_journal.specs.declared.reading.DiskPlace.{DiskPlace}
use Rattle.machine_keep.specs.Crash.{IsSnapshotFor, keeps_step}
use Rattle.machine_keep.specs.Kept.{after_step}
use Rattle.simulated_machine.specs.Held.{Held, Unsynced, Place, is_many_at, place_at, with_record, with_snapshot}

-- ---- before what was unsynced is made sure of
-- the image of the disk of which something is unsynced: it reads as it does where its sync was made
abbrev pub unsynced_in : ℕ → Bool → Image → Image
unsynced_in stop second image = if nat_lt 1 stop && not second then New else image

abbrev pub state_unsynced : {S : Type 0} → S → Option (Unsynced S) → ℕ → Image → S
state_unsynced state None stop image = state
state_unsynced state (Some unsynced) stop image = if is_new (unsynced_in stop unsynced.second image) then state else unsynced.state

abbrev pub place_unsynced : {S : Type 0} → Place → Option (Unsynced S) → ℕ → Image → Place
place_unsynced place None stop image = place
place_unsynced place (Some unsynced) stop image = if is_new (unsynced_in stop unsynced.second image) then place else unsynced.place

-- ---- behind it
-- a snapshot where the records are many with the step's, unless it is put off
abbrev pub IsSnapshotDue : {S : Type 0} → (List (List ℕ) → S → Type 0) → S → Place → Option (List ℕ) → Option (List ℕ) → Type 0
IsSnapshotDue stands s p None snapshot = snapshot ≡ None
IsSnapshotDue stands s p (Some payload) snapshot = IsSnapshotFor stands s p.generation (is_many_at p (length payload)) snapshot

-- behind a stop at this call of a record of so many bytes, and of a snapshot, where there are any
abbrev pub place_stopped : ℕ → Image → Place → Option ℕ → Option ℕ → Place
place_stopped number image p None snapshot = p
place_stopped number image p (Some record_bytes) None = if keeps_step number image then with_record p record_bytes else p
place_stopped number image p (Some record_bytes) (Some snapshot_bytes) = if opens_head (number - 4) image then with_snapshot p snapshot_bytes else (if keeps_step number image then with_record p record_bytes else p)

-- two disks stand for this state, at this place
pub record StandsAt {S : Type 0} (stands : List (List ℕ) → S → Type 0) (state : S) (place : Place) (pair : Result Counted DiskPlace) : Type 0 where
  pub left : Counted
  pub is_left : pair ≡ Ok left
  pub is_place : place_at left ≡ place
  pub stood : stands left.list state

module _ {S C R T : Type 0} (stands : List (List ℕ) → S → Type 0) (bytes : T → List ℕ) (answers : S → C → R → Option T → Type 0) (follows : S → T → Type 0) (after : S → T → S) where
  -- a step that stops behind its syncs, at this of its calls
  pub record Stops (old : Held S) (call : C) (number : ℕ) (image : Image) (pair : Result Counted DiskPlace) : Type 0 where
    pub reply : R
    pub step : Option T
    pub answered : answers old.state call reply step
    pub may : IfSome step (λ t. follows old.state t)
    pub snapshot : Option (List ℕ)
    -- a stop in the record comes to none
    pub due : 4 < number → IsSnapshotDue stands (after_step after old.state step) old.place (option_map bytes step) snapshot
    pub left : StandsAt stands (if keeps_step number image then after_step after old.state step else old.state) (place_stopped number image old.place (option_map (λ t. length (bytes t)) step) (option_map length snapshot)) pair
