-- A step that a crash stops.
use Rattle.std.specs.Prelude.{◌≡◌, ◌⊎◌, ℕ, ◌+◌, ◌-◌, ◌^◌, ◌≤◌, ◌<◌, Bool, true, false, if◌then◌else◌, ◌||◌, List, [], ◌∷◌, length, Option, None, Some, IfSome, option_map, Result, nat_lt}
use Rattle.ps_disks.specs.declared.image.Image.{Image}
use Rattle.host_journal.specs.Crash.{opens_gate, opens_head}
use Rattle.host_journal.specs.State.{State, has_record, snapshot_of, stored, which}
use Rattle.host_journal.specs.declared.reading.Counted.{Counted}
use Rattle.host_journal.specs.declared.reading.DiskPlace.{DiskPlace}
use Rattle.machine_keep.specs.Course.{IsFound, IsSnapshotOf, is_many_with}
use Rattle.machine_keep.specs.Kept.{StandsFor, after_step}

-- A step that stops at this of its calls, counted from 1, is kept in this image: in its third or fourth where that keeps what no sync
-- made sure of, and from its fifth on in any.
abbrev pub keeps_step : ℕ → Image → Bool
keeps_step stop image = opens_gate stop image || nat_lt 4 stop

-- the disks stand for what the step leaves that the call would have made in this state
abbrev pub LeftOfStep : {S C R T : Type 0} → (List (List ℕ) → S → Type 0) → (S → C → R → Option T → Type 0) → (S → T → S) → S → C → ℕ → Image → Result Counted DiskPlace → Type 0
LeftOfStep {S} {C} {R} {T} stands answers after s call stop image pair =
    (reply : R) × (step : Option T) × answers s call reply step × StandsFor stands (if keeps_step stop image then after_step after s step else s) pair

-- ---- which snapshot a step makes
-- None of this state is put beside a disk of this generation: that is the last one, or the snapshot would have 2^32 bytes or more.
abbrev pub IsPutOff : {S : Type 0} → (List (List ℕ) → S → Type 0) → S → ℕ → Type 0
IsPutOff stands s generation = (generation + 1 ≡ 2 ^ 64) ⊎ ((image : List ℕ) × stands (image ∷ []) s × (2 ^ 32 ≤ length image))

-- one of the state where the records are many, and it isn't put off; else none
abbrev pub IsSnapshotFor : {S : Type 0} → (List (List ℕ) → S → Type 0) → S → ℕ → Bool → Option (List ℕ) → Type 0
IsSnapshotFor stands s generation many None = (many ≡ false) ⊎ IsPutOff stands s generation
IsSnapshotFor stands s generation many (Some image) = (many ≡ true) × IsSnapshotOf stands s generation image

-- behind the record of a step that led to this state
abbrev pub IsSnapshotBehind : {D S : Type 0} → (List (List ℕ) → S → Type 0) → S → State D → Option (List ℕ) → Option (List ℕ) → Type 0
IsSnapshotBehind stands s place None snapshot = snapshot ≡ None
IsSnapshotBehind stands s place (Some payload) snapshot = IsSnapshotFor stands s place.generation (is_many_with place payload) snapshot

-- ---- for what the disks stand then
-- A step with this record and this snapshot that stops at this of its calls: with the record where its gate byte is open, and once the
-- snapshot's head gate byte is open, which comes behind the four calls of the record, for the snapshot alone on the other disk.
abbrev pub left_of_step : {D : Type 0} → (D → List ℕ) → State D → Option (List ℕ) → Option (List ℕ) → ℕ → Image → Result Counted DiskPlace
left_of_step seen place None snapshot stop image = stored seen place
left_of_step seen place (Some payload) None stop image = which payload (keeps_step stop image) (stored seen place)
left_of_step seen place (Some payload) (Some snapshot) stop image =
    if opens_head (stop - 4) image then snapshot_of snapshot place else which payload (keeps_step stop image) (stored seen place)

-- the same of a journal that has the record, by the snapshot's calls
abbrev pub left_of_snapshot : {D : Type 0} → (D → List ℕ) → State D → Option (List ℕ) → ℕ → Image → Result Counted DiskPlace
left_of_snapshot seen s None stop image = stored seen s
left_of_snapshot seen s (Some snapshot) stop image = if opens_head stop image then snapshot_of snapshot s else stored seen s

module _ {D S C R T : Type 0} (seen : D → List ℕ) (stands : List (List ℕ) → S → Type 0) (bytes : T → List ℕ) (answers : S → C → R → Option T → Type 0) (follows : S → T → Type 0) (after : S → T → S) where
  -- What is left of a step that stops, and of which one: the step that the call would have made in this state, the snapshot behind its
  -- record, and the list for which the disks stand. A stop in the record comes to no snapshot.
  pub record LeftExactly (s : S) (place : State D) (call : C) (stop : ℕ) (image : Image) (pair : Result Counted DiskPlace) : Type 0 where
    pub reply : R
    pub step : Option T
    pub answered : answers s call reply step
    pub may : IfSome step (λ t. follows s t)
    pub kept : StandsFor stands (if keeps_step stop image then after_step after s step else s) pair
    pub snapshot : Option (List ℕ)
    pub due : 4 < stop → IsSnapshotBehind stands (after_step after s step) place (option_map bytes step) snapshot
    pub left : pair ≡ left_of_step seen place (option_map bytes step) snapshot stop image

  -- the same behind two syncs that found out what stands
  pub record LeftBehind (s : S) (old : State D) (call : C) (stop : ℕ) (image : Image) (pair : Result Counted DiskPlace) : Type 0 where
    pub place : State D
    pub found : IsFound (Unit {0}) seen old (has_record old.pending (stored seen old)) place
    pub same : stored seen place ≡ stored seen old
    pub left : LeftExactly s place call stop image pair
