-- What a fault of a disk leaves of a call of a kept machine.
use Rattle.std.specs.Prelude.{◌≡◌, ℕ, ◌+◌, ◌-◌, ◌^◌, ◌≤◌, ◌<◌, nat_lt, if◌then◌else◌, List, length, Option, IfSome, None, Some, option_map}
use Rattle.ps_disks.specs.History.{IsImage, bytes_now}
use Rattle.ps_disks.specs.MemoryDisk.{DiskState, told_calls}
use Rattle.ps_disks.specs.Run.{Went}
use Rattle.ps_disks.specs.declared.disk.DiskCall.{DiskCall}
use Rattle.ps_ports.specs.Causes.{counted}
use Rattle.host_journal.specs.State.{IsSound, first_disk, has_record, is_ready, second_disk, snapshot_of, stored, which}
use Rattle.machine_keep.specs.Calls.{PairCalls, step_calls, sync_calls}
use Rattle.machine_keep.specs.Course.{IsBehindRecord, Unfound, Unkept}
use Rattle.machine_keep.specs.Kept.{Kept, StandsFor, caught}
use Rattle.machine_keep.specs.Stopped.{first_fault}

module _ {M D S T : Type 0} (premise : Type 0) (seen : D → List ℕ) (tells : D → Option (List DiskCall)) (faults : D → ℕ) (goes : D → D → Type 0) (state : M → S) where
  -- a fault was met before it was known what stands, and all stays unknown
  pub record Unsettled (old new : Kept M D T) : Type 0 where
    pub unfound : Unfound tells faults goes state old new
    pub same : premise → stored seen new.journal ≡ stored seen old.journal
    pub pending : new.journal.pending ≡ old.journal.pending

module _ {M D S C R T : Type 0} (premise : Type 0) (seen : D → List ℕ) (may_leave : D → List ℕ → Type 0) (tells : D → Option (List DiskCall)) (faults : D → ℕ) (goes : D → D → Type 0) (state : M → S) (stands : List (List ℕ) → S → Type 0)
    (bytes : T → List ℕ) (answers : S → C → R → Option T → Type 0) (follows : S → T → Type 0) (after : S → T → S) where
  -- A fault was met as the step was kept: from which disks it was made, and whether its record stands where that is unsure.
  pub record Broken (old new : Kept M D T) (call : C) : Type 0 where
    pub unkept : Unkept premise seen tells faults goes state stands bytes answers follows after old new call
    pub short : IfSome unkept.step (λ t. length (bytes t) ≤ 8_388_608)
    -- the calls before the fault: the syncs, and then others
    pub synced : length (sync_calls (is_ready old.journal.pending)) ≤ length unkept.told.made
    pub behind : IsBehindRecord unkept.image (length unkept.told.made - length (sync_calls (is_ready old.journal.pending)))
    pub sound : premise → IsSound seen may_leave unkept.place
    pub read : premise → (seen (first_disk unkept.place) ≡ seen (first_disk old.journal)) × (seen (second_disk unkept.place) ≡ seen (second_disk old.journal))
    pub stood : premise → StandsFor stands (caught after (state old.machine) old.unsure unkept.stood) (stored seen old.journal)
    pub found : premise → IfSome new.unsure (λ t. stored seen new.journal ≡ which (bytes t) (has_record new.journal.pending (stored seen new.journal)) (stored seen old.journal))

-- what a disk in memory reads, and what a crash leaves of it
abbrev pub seen_on : DiskState → List ℕ
seen_on d = bytes_now d.history

abbrev pub left_now : DiskState → List ℕ → Type 0
left_now d c = IsImage d.history c

module _ {M S C R T : Type 0} (state : M → S) (stands : List (List ℕ) → S → Type 0) (bytes : T → List ℕ) (answers : S → C → R → Option T → Type 0) (follows : S → T → Type 0) (after : S → T → S) where
  -- the same over disks in memory
  abbrev pub BrokenInMemory : Kept M DiskState T → Kept M DiskState T → C → Type 0
  BrokenInMemory old new call = Broken (Unit {0}) seen_on left_now told_calls (λ d. counted d.faults) Went state stands bytes answers follows after old new call

  module _ (old new : Kept M DiskState T) (call : C) (broken : BrokenInMemory old new call) where
    -- the calls of the step, had it met no fault
    abbrev pub wanted_calls : PairCalls
    wanted_calls = step_calls (is_ready old.journal.pending) broken.unkept.place (option_map bytes broken.unkept.step) broken.unkept.image

    -- the state in which the step was made
    abbrev pub state_before : S
    state_before = caught after (state old.machine) old.unsure broken.unkept.stood

  -- What is left where of each disk the call of this number is to fail, counted from 1 among its own (0: none).
  pub record Faulted (first second : ℕ) (old new : Kept M DiskState T) (call : C) (broken : BrokenInMemory old new call) : Type 0 where
    pub step : T
    pub is_step : broken.unkept.step ≡ Some step
    -- which call of its record and snapshot failed, counted from 1: behind the syncs it is the first that is to fail
    pub number : ℕ
    pub least : 1 ≤ number
    pub place : first_fault first second (wanted_calls old new call broken) ≡ Some (length (sync_calls (is_ready old.journal.pending)) + number)
    -- in the record: the step is unsure, and its record stands exactly behind the write of its gate byte
    pub unsure : number ≤ 4 → (state new.machine ≡ state_before old new call broken) × (new.unsure ≡ Some step) × (has_record new.journal.pending (stored seen_on new.journal) ≡ nat_lt 3 number)
    -- in the snapshot: it was taken in
    pub taken : 4 < number → (state new.machine ≡ after (state_before old new call broken) step) × (new.unsure ≡ None)
    -- what the disks stand for as they read
    pub stands_for : StandsFor stands (if nat_lt 3 number then after (state_before old new call broken) step else state_before old new call broken) (stored seen_on new.journal)
    pub reads_as : number ≤ 10 → stored seen_on new.journal ≡ which (bytes step) (nat_lt 3 number) (stored seen_on old.journal)
    -- once the snapshot's gate byte is written, the other disk counts
    pub turned : 10 < number → (image : List ℕ) → broken.unkept.image ≡ Some image → length image < 2 ^ 32 → broken.unkept.place.generation + 1 < 2 ^ 64 → stored seen_on new.journal ≡ snapshot_of image broken.unkept.place
