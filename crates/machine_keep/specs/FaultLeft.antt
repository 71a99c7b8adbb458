-- What a crash leaves of a kept machine whose last step met a fault, before a sync makes sure of what the disks read.
use Rattle.std.specs.Prelude.{◌≡◌, ℕ, ◌+◌, ◌^◌, ◌<◌, Bool, false, if◌then◌else◌, ◌&&◌, ◌||◌, List, Option, IfSome, None, Some, Result, length, nat_lt}
use Rattle.ps_disks.specs.History.{bytes_now, image_bytes}
use Rattle.ps_disks.specs.MemoryDisk.{DiskState}
use Rattle.ps_disks.specs.declared.image.Image.{Image}
use Rattle.ps_disks.specs.declared.image.Image.TheVariants.{New}
use Rattle.host_journal.specs.Crash.{is_new}
use Rattle.host_journal.specs.Pair.{pair_of}
use Rattle.host_journal.specs.State.{State, first_disk, second_disk, snapshot_of, stored, which}
use Rattle.host_journal.specs.declared.reading.Counted.{Counted}
use Rattle.host_journal.specs.declared.reading.DiskPlace.{DiskPlace}
use Rattle.machine_keep.specs.Calls.{sync_calls}
use Rattle.machine_keep.specs.Faulted.{BrokenInMemory, Faulted, seen_on}
use Rattle.machine_keep.specs.Kept.{Kept}
use Rattle.machine_keep.specs.Stopped.{first_fault}

-- A step of which this call failed, counted from 1, is kept in this image: from the fifth on in any, and where it is the fourth, which
-- was to make sure of the record's gate byte, in the one that keeps what no sync made sure of.
abbrev pub keeps_faulted : ℕ → Image → Bool
keeps_faulted number image = nat_lt 4 number || (nat_lt 3 number && is_new image)

-- the same of a snapshot's head gate byte, of which the eleventh call was to make sure
abbrev pub turns_faulted : ℕ → Image → Bool
turns_faulted number image = nat_lt 10 number && is_new image

-- what the disks stand for then that stood for this before, where the disk of that call is left in this image
abbrev pub left_of_fault : {D : Type 0} → Result Counted DiskPlace → State D → List ℕ → Option (List ℕ) → ℕ → Image → Result Counted DiskPlace
left_of_fault before place payload None number image = which payload (keeps_faulted number image) before
left_of_fault before place payload (Some snapshot) number image = if turns_faulted number image then snapshot_of snapshot place else which payload (keeps_faulted number image) before

-- The image of the disk of that call: the one that counts in the four calls of the record, and the other in those of a snapshot.
abbrev pub unsynced_image : ℕ → Bool → Image → Image → Image
unsynced_image number second one two = if nat_lt 4 number then (if second then one else two) else (if second then two else one)

-- where it was the eleventh, the snapshot has fewer than 2^32 bytes, and this isn't the last generation
abbrev pub IsWithinReach : ℕ → ℕ → Option (List ℕ) → Type 0
IsWithinReach number generation snapshot = 10 < number → IfSome snapshot (λ image. (length image < 2 ^ 32) × (generation + 1 < 2 ^ 64))

module _ {M S C R T : Type 0} (state : M → S) (stands : List (List ℕ) → S → Type 0) (bytes : T → List ℕ) (answers : S → C → R → Option T → Type 0) (follows : S → T → Type 0) (after : S → T → S) where
  -- Each of the two disks is left in an image of its own, or the first as it reads, behind a sync of it.
  pub record LeftAgain (first second : ℕ) (old new : Kept M DiskState T) (call : C) (broken : BrokenInMemory state stands bytes answers follows after old new call)
      (faulted : Faulted state stands bytes answers follows after first second old new call broken) : Type 0 where
    pub images : (one two : Image) → pair_of (image_bytes one (first_disk new.journal).history) (image_bytes two (second_disk new.journal).history)
        ≡ left_of_fault (stored seen_on old.journal) broken.unkept.place (bytes faulted.step) broken.unkept.image faulted.number (unsynced_image faulted.number broken.unkept.place.second one two)
    pub synced : (image : Image) → pair_of (seen_on (first_disk new.journal)) (image_bytes image (second_disk new.journal).history)
        ≡ left_of_fault (stored seen_on old.journal) broken.unkept.place (bytes faulted.step) broken.unkept.image faulted.number (unsynced_image faulted.number broken.unkept.place.second New image)

-- Where a sync before the step failed, that of the first disk or that of the second: what each image of a disk was it is still, but for
-- those of the first that was made sure of.
pub record LeftStill (first second : ℕ) (old new : State DiskState) : Type 0 where
  pub number : ℕ
  pub place : first_fault first second (sync_calls false) ≡ Some number
  pub first_image : (image : Image) → image_bytes image (first_disk new).history ≡ (if nat_lt 1 number then bytes_now (first_disk old).history else image_bytes image (first_disk old).history)
  pub second_image : (image : Image) → image_bytes image (second_disk new).history ≡ image_bytes image (second_disk old).history
