-- What a kept machine over two disks in memory holds.
use Rattle.std.specs.Prelude.{◌≡◌, ◌+◌, ◌<◌, ◌^◌, ◌-◌, ◌≤◌, ℕ, Bool, false, if◌then◌else◌, List, length, Option, None, Some, IfSome, option_map, Ok}
use Rattle.ps_disks.specs.History.{image_bytes}
use Rattle.ps_disks.specs.MemoryDisk.{DiskState}
use Rattle.ps_disks.specs.Run.{IsArmed}
use Rattle.ps_disks.specs.declared.image.Image.{Image}
use Rattle.ps_disks.specs.declared.image.Image.TheVariants.{New, Old}
use Rattle.host_journal.specs.Crash.{is_new}
use Rattle.host_journal.specs.Pair.{pair_of}
use Rattle.host_journal.specs.State.{State, first_disk, has_record, is_ready, second_disk, stored}
use Rattle.host_journal.specs.declared.reading.Counted.{Counted}
use Rattle.machine_keep.specs.Faulted.{seen_on}
use Rattle.machine_keep.specs.Kept.{Kept, caught}
use Rattle.simulated_machine.specs.Held.{Held, Unsynced, on_first, on_second, place_at, place_of}

-- As two disks read they stand for this. So they do in each image that a crash leaves; or in those that keep of one disk what no sync
-- made sure of, and in the others for what is unsynced.
pub record LeavesUnsynced {S : Type 0} (stands : List (List ℕ) → S → Type 0) (machine : S) (journal : State DiskState) (read : Counted) (unsynced : Unsynced S) : Type 0 where
  pub is_state : unsynced.state ≡ machine
  pub before : Counted
  pub place : unsynced.place ≡ place_at before
  pub stood : stands before.list unsynced.state
  pub images : (one two : Image) → pair_of (image_bytes one (first_disk journal).history) (image_bytes two (second_disk journal).history) ≡ Ok (if is_new (if unsynced.second then two else one) then read else before)
  -- behind a sync of the first disk
  pub synced : (image : Image) → pair_of (seen_on (first_disk journal)) (image_bytes image (second_disk journal).history) ≡ Ok (if is_new (if unsynced.second then image else New) then read else before)

-- the machine is in this state, without a step that is unsure
abbrev pub Leaves : {S : Type 0} → (List (List ℕ) → S → Type 0) → S → State DiskState → Counted → Option (Unsynced S) → Type 0
Leaves stands machine journal read None = (one two : Image) → pair_of (image_bytes one (first_disk journal).history) (image_bytes two (second_disk journal).history) ≡ Ok read
Leaves stands machine journal read (Some unsynced) = LeavesUnsynced stands machine journal read unsynced

-- the count of faults of each disk is at most this
abbrev pub HasFaults : State DiskState → ℕ → Type 0
HasFaults journal n = ((first_disk journal).faults ≤ n) × ((second_disk journal).faults ≤ n)

-- each disk noted as many calls more as there are of it among these
pub record HasMade (old new : State DiskState) (calls : List Bool) : Type 0 where
  pub first : length (first_disk new).history.log ≡ length (first_disk old).history.log + on_first calls
  pub second : length (second_disk new).history.log ≡ length (second_disk old).history.log + on_second calls

pub record IsHeld {M S T : Type 0} (state : M → S) (stands : List (List ℕ) → S → Type 0) (after : S → T → S) (k : Kept M DiskState T) (h : Held S) : Type 0 where
  pub is_state : h.state ≡ caught after (state k.machine) k.unsure (has_record k.journal.pending (stored seen_on k.journal))
  pub is_ready : h.ready ≡ is_ready k.journal.pending
  pub read : Counted
  pub is_read : stored seen_on k.journal ≡ Ok read
  pub is_place : h.place ≡ place_at read
  pub stood : stands read.list h.state
  pub left : Leaves stands (state k.machine) k.journal read h.unsynced
  -- where something is unsynced, a fault was met
  pub unready : (unsynced : Unsynced S) → h.unsynced ≡ Some unsynced → h.ready ≡ false
  pub first : IsArmed (first_disk k.journal) h.first
  pub second : IsArmed (second_disk k.journal) h.second

-- what is held of it, by the disk of which something is unsynced
abbrev pub held_of : {M S T : Type 0} → (M → S) → (S → T → S) → Kept M DiskState T → Option Bool → Held S
held_of state after k unsynced = record {
  state = caught after (state k.machine) k.unsure (has_record k.journal.pending (stored seen_on k.journal));
  place = place_of (stored seen_on k.journal);
  ready = is_ready k.journal.pending;
  unsynced = option_map (λ second. record { second = second; state = state k.machine; place = place_of (pair_of (image_bytes Old (first_disk k.journal).history) (image_bytes Old (second_disk k.journal).history)) }) unsynced;
  first = (first_disk k.journal).until_fault;
  second = (second_disk k.journal).until_fault;
}

-- a kept machine, and the disk of which something is unsynced: whether that is the second
pub record SimulatedState (M T : Type 0) : Type 0 where
  pub keep : Kept M DiskState T
  pub unsynced : Option Bool

abbrev pub held : {M S T : Type 0} → (M → S) → (S → T → S) → SimulatedState M T → Held S
held state after s = held_of state after s.keep s.unsynced

-- Of a machine that is held: its disks met at most so many faults, no snapshot was put off, and so many bytes are its snapshot and its records at most.
pub record Holds {M S T F : Type 0} (fixed : S → F) (state : M → S) (stands : List (List ℕ) → S → Type 0) (after : S → T → S) (k : Kept M DiskState T) (unsynced : Option Bool) (faults most : ℕ) : Type 0 where
  pub held : IsHeld state stands after k (held_of state after k unsynced)
  pub few : HasFaults k.journal faults
  pub made : k.put_off ≡ 0
  pub is_fixed : fixed (held_of state after k unsynced).state ≡ fixed (state k.machine)
  pub size : most < 2 ^ 64 - 1 → (held_of state after k unsynced).place.snapshot + (held_of state after k unsynced).place.records ≤ most

-- this disk counts as they read, and nothing is unsynced of the other
pub record IsCounting (journal : State DiskState) (unsynced : Option Bool) (second : Bool) : Type 0 where
  pub is_second : second ≡ (place_of (stored seen_on journal)).second
  pub is_unsynced : IfSome unsynced (λ disk. disk ≡ second)
