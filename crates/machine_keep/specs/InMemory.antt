-- What a crash or a fault leaves of a step over disks in memory, by what the machine means.
use Rattle.std.specs.Prelude.{◌≡◌, ◌<◌, ℕ, List, Option, Some, Result, false, if◌then◌else◌, nat_lt}
use Rattle.ps_disks.specs.History.{bytes_now, image_bytes}
use Rattle.ps_disks.specs.MemoryDisk.{DiskState}
use Rattle.ps_disks.specs.Run.{IsArmed}
use Rattle.ps_disks.specs.declared.image.Image.{Image}
use Rattle.host_journal.specs.Pair.{pair_of}
use Rattle.host_journal.specs.State.{State, first_disk, has_record, second_disk, stored}
use Rattle.host_journal.specs.declared.reading.Counted.{Counted}
use Rattle.host_journal.specs.declared.reading.DiskPlace.{DiskPlace}
use Rattle.machine_keep.specs.Calls.{PairCalls}
use Rattle.machine_keep.specs.Crash.{IsSnapshotBehind, IsSnapshotFor, LeftBehind, LeftExactly, LeftOfStep, keeps_step, left_of_snapshot, left_of_step}
use Rattle.machine_keep.specs.Ends.{has_many}
use Rattle.machine_keep.specs.FaultLeft.{LeftAgain}
use Rattle.machine_keep.specs.Faulted.{BrokenInMemory, Faulted, seen_on, wanted_calls}
use Rattle.machine_keep.specs.Kept.{Kept, StandsExcept, caught}
use Rattle.machine_keep.specs.declared.machine.Machine as Machine

-- what two disks stand for as they read
abbrev pub seen_pair : DiskState → DiskState → Result Counted DiskPlace
seen_pair first second = pair_of (seen_on first) (seen_on second)

-- a disk that is left before the first of two syncs, in an image, and behind it as it reads
abbrev pub left_first : ℕ → Image → DiskState → List ℕ
left_first stop image disk = if nat_lt 1 stop then bytes_now disk.history else image_bytes image disk.history

-- of each disk of a journal the call of this number is to fail, counted from 1 among its own (0: none)
abbrev pub IfArmed : State DiskState → ℕ → ℕ → Type 0 → Type 0
IfArmed old first second P = IsArmed (first_disk old) first → IsArmed (second_disk old) second → P

-- there was memory for each call of theirs
abbrev pub IfFed : State DiskState → Type 0 → Type 0
IfFed new P = (first_disk new).starved ≡ false → (second_disk new).starved ≡ false → P

module _ {M O C R T : Type 0} (machine : Machine.Ghosts M O C R T) where
  -- the state that a call finds
  abbrev pub found_in_memory : Kept M DiskState T → machine.State
  found_in_memory keep = caught machine.after (machine.state keep.machine) keep.unsure (has_record keep.journal.pending (stored seen_on keep.journal))

  -- what a step that stops leaves of this state
  abbrev pub state_left : machine.State → T → ℕ → Image → machine.State
  state_left s step stop image = if keeps_step stop image then machine.after s step else s

  -- a pair stands for what the step leaves that the call would have made in this state
  abbrev pub LeavesStep : machine.State → C → ℕ → Image → Result Counted DiskPlace → Type 0
  LeavesStep s call stop image pair = LeftOfStep machine.stands_for machine.answers machine.after s call stop image pair

  -- and which list it is that it stands for, and on which disk
  abbrev pub LeavesExactly : Kept M DiskState T → C → ℕ → Image → Result Counted DiskPlace → Type 0
  LeavesExactly keep call stop image pair =
      LeftExactly seen_on machine.stands_for machine.record_of machine.answers machine.follows machine.after
      (machine.state keep.machine) keep.journal call stop image pair

  -- the same behind two syncs that found out what stands
  abbrev pub LeavesBehind : Kept M DiskState T → C → ℕ → Image → Result Counted DiskPlace → Type 0
  LeavesBehind keep call stop image pair =
      LeftBehind seen_on machine.stands_for machine.record_of machine.answers machine.follows machine.after
      (found_in_memory keep) keep.journal call stop image pair

  -- what a step leaves that is known
  abbrev pub StopsInStep : Kept M DiskState T → T → ℕ → Image → Result Counted DiskPlace → Type 0
  StopsInStep keep step stop image pair =
      (snapshot : Option (List ℕ))
      × (4 < stop → IsSnapshotBehind machine.stands_for (machine.after (machine.state keep.machine) step) keep.journal (Some (machine.record_of step)) snapshot)
      × (pair ≡ left_of_step seen_on keep.journal (Some (machine.record_of step)) snapshot stop image)

  -- and the snapshot behind a record
  abbrev pub StopsBehindStep : Kept M DiskState T → ℕ → Image → Result Counted DiskPlace → Type 0
  StopsBehindStep keep stop image pair =
      (snapshot : Option (List ℕ))
      × IsSnapshotFor machine.stands_for (machine.state keep.machine) keep.journal.generation (has_many keep.journal) snapshot
      × (pair ≡ left_of_snapshot seen_on keep.journal snapshot stop image)

  -- ---- of a fault
  -- the disks stand for the machine's state, but for a step that is unsure
  abbrev pub StandsInMemory : Kept M DiskState T → Type 0
  StandsInMemory keep =
      StandsExcept machine.stands_for machine.record_of (machine.state keep.machine) keep.journal.pending (stored seen_on keep.journal) keep.unsure

  -- the call met one as its step was kept
  abbrev pub BreaksInMemory : Kept M DiskState T → Kept M DiskState T → C → Type 0
  BreaksInMemory old new call =
      BrokenInMemory machine.state machine.stands_for machine.record_of machine.answers machine.follows machine.after old new call

  module _ (old new : Kept M DiskState T) (call : C) (broken : BreaksInMemory old new call) where
    -- the calls of its step, had it met none
    abbrev pub calls_wanted : PairCalls
    calls_wanted = wanted_calls machine.state machine.stands_for machine.record_of machine.answers machine.follows machine.after old new call broken

    -- what is left where of each disk the call of this number is to fail
    abbrev pub IsFaulted : ℕ → ℕ → Type 0
    IsFaulted first second =
        Faulted machine.state machine.stands_for machine.record_of machine.answers machine.follows machine.after first second old new call broken

    -- and what a crash leaves of that
    abbrev pub IsLeftAgain : (first second : ℕ) → IsFaulted first second → Type 0
    IsLeftAgain first second faulted =
        LeftAgain machine.state machine.stands_for machine.record_of machine.answers machine.follows machine.after first second old new call broken
        faulted
