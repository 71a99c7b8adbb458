-- What a call says of both disks, by what each of them means.
use Rattle.std.specs.Prelude.{◌≡◌, ◌⊎◌, ◌≤◌, ℕ, List, Result}
use Rattle.ps_ports.specs.Causes.{Rose}
use Rattle.ps_disks.specs.declared.disk.Disk.{Ghosts}
use Rattle.host_journal.specs.Calls.{IsRead}
use Rattle.host_journal.specs.Moments.{Adds, Shows}
use Rattle.host_journal.specs.Pair.{pair_of}
use Rattle.host_journal.specs.State.{State, EachImage, first_disk, has_record, second_disk, stored, which, with_record}
use Rattle.host_journal.specs.declared.reading.Counted.{Counted}
use Rattle.host_journal.specs.declared.reading.DiskPlace.{DiskPlace}
use Rattle.machine_keep.specs.Calls.{PairCalls, TellsSome, TellsSomeIn}

module _ {D : Type 0} (disk : Ghosts D) where
  -- what two disks stand for as they read
  abbrev pub read_pair : D → D → Result Counted DiskPlace
  read_pair first second = pair_of (disk.seen first) (disk.seen second)

  -- ---- of two disks, and the same two later
  -- of both the counts of faults are as before
  abbrev pub NoFaultOn : D → D → D → D → Type 0
  NoFaultOn first second first_now second_now =
      (disk.disk_faults first_now ≡ disk.disk_faults first) × (disk.disk_faults second_now ≡ disk.disk_faults second)

  -- of one of them it rose
  abbrev pub FaultRoseOn : D → D → D → D → Type 0
  FaultRoseOn first second first_now second_now =
      Rose (disk.disk_faults first) (disk.disk_faults first_now) ⊎ Rose (disk.disk_faults second) (disk.disk_faults second_now)

  -- of these calls some were made, up to one at which a fault was met
  abbrev pub StopsOn : D → D → D → D → PairCalls → Type 0
  StopsOn first second first_now second_now calls = TellsSome disk.told disk.disk_faults disk.calls_advance first second first_now second_now calls

  -- of one disk: syncs and reads
  abbrev pub OnlyRead : D → D → Type 0
  OnlyRead old new = IsRead disk.seen disk.may_leave disk.moment disk.left_since old new

  -- ---- of the disks of a journal
  abbrev pub NoFault : State D → State D → Type 0
  NoFault old new = NoFaultOn (first_disk old) (second_disk old) (first_disk new) (second_disk new)

  abbrev pub FaultRose : State D → State D → Type 0
  FaultRose old new = FaultRoseOn (first_disk old) (second_disk old) (first_disk new) (second_disk new)

  -- of neither the count of faults fell
  abbrev pub FaultsAdvance : State D → State D → Type 0
  FaultsAdvance old new =
      (disk.disk_faults (first_disk old) ≤ disk.disk_faults (first_disk new))
      × (disk.disk_faults (second_disk old) ≤ disk.disk_faults (second_disk new))

  abbrev pub StopsIn : State D → State D → PairCalls → Type 0
  StopsIn old new calls = TellsSomeIn disk.told disk.disk_faults disk.calls_advance old new calls

  -- both read as before
  abbrev pub ReadAsBefore : State D → State D → Type 0
  ReadAsBefore old new = (disk.seen (first_disk new) ≡ disk.seen (first_disk old)) × (disk.seen (second_disk new) ≡ disk.seen (second_disk old))

  -- whatever a crash leaves of each, they stand for what they stand for as they read
  abbrev pub LeavesOnlyStored : State D → Type 0
  LeavesOnlyStored s = EachImage disk.may_leave s (λ pair. pair ≡ stored disk.seen s)

  -- they stand for what they stood for, with this record where a reload is to find it
  abbrev pub StandsWhere : List ℕ → State D → State D → Type 0
  StandsWhere payload old new = stored disk.seen new ≡ which payload (has_record new.pending (stored disk.seen new)) (stored disk.seen old)

  -- what a crash may leave of each is what it might have left before, or it stands for the list with or without this record
  abbrev pub AddsRecord : List ℕ → State D → State D → Type 0
  AddsRecord payload old new = Adds disk.moment disk.left_since old new
      (λ second c. Shows (stored disk.seen old) second c ⊎ Shows (with_record payload (stored disk.seen old)) second c)
