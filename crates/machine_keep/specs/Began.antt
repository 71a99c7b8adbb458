-- What an opening of a kept machine says, by what the machine and its disks mean.
use Rattle.std.specs.Prelude.{◌≡◌, ◌⊎◌, ℕ, List, [], ◌∷◌, Option, Some, Result, Ok, false}
use Rattle.ps_disks.specs.declared.disk.Disk as Disk
use Rattle.host_journal.specs.Moments.{Adds, LeftIn}
use Rattle.host_journal.specs.Pair.{pair_of}
use Rattle.host_journal.specs.State.{State, first_disk, second_disk, stored}
use Rattle.host_journal.specs.declared.fault.OpenReason.{OpenReason}
use Rattle.host_journal.specs.declared.fault.OpenReason.TheVariants.{NotAJournal}
use Rattle.host_journal.specs.declared.reading.Counted.{Counted}
use Rattle.host_journal.specs.declared.reading.DiskPlace.{DiskPlace}
use Rattle.machine_keep.specs.BothDisks.{StopsOn, read_pair}
use Rattle.machine_keep.specs.Calls.{TellsIn, image_calls, sync_calls}
use Rattle.machine_keep.specs.Course.{IsInForm, IsRewritten, Opened, Unwritten}
use Rattle.machine_keep.specs.Kept.{EachFrom, IsMade, IsMigrating, Kept, StandsEither}
use Rattle.machine_keep.specs.Opening.{EachUnlessUndone, IsBegun, StandsAsBefore}
use Rattle.machine_keep.specs.Refusal.{IsRefusedAt, StandsOf}
use Rattle.machine_keep.specs.declared.machine.Machine as Machine

-- where the reason is that two disks are no journal, their place has P
abbrev pub IfNotAJournal : OpenReason → (DiskPlace → Type 0) → Type 0
IfNotAJournal reason P = (place : DiskPlace) → reason ≡ NotAJournal place → P place

-- the two disks of a journal as it was
abbrev pub AreDisksOf : {D : Type 0} → State D → D → D → Type 0
AreDisksOf journal first second = (first ≡ first_disk journal) × (second ≡ second_disk journal)

module _ {M O C R T : Type 0} (machine : Machine.Ghosts M O C R T) where
  -- a pair stands for this state, in the form that is written or in the earlier one
  abbrev pub StandsInEither : machine.State → Result Counted DiskPlace → Type 0
  StandsInEither s pair = StandsEither machine.stands_for machine.stood_for s pair

  -- both of two pairs stand for one state
  abbrev pub StandForOne : Result Counted DiskPlace → Result Counted DiskPlace → Type 0
  StandForOne from pair = (s : machine.State) × (StandsInEither s from × StandsInEither s pair)

  -- a pair stands for no state of this origin
  abbrev pub StandsForNone : machine.Fixed → Result Counted DiskPlace → Type 0
  StandsForNone origin pair = (s : machine.State) → machine.fixed s ≡ origin → StandsInEither s pair → ⊥

  -- it is refused at this place
  abbrev pub IsRefusedOf : machine.Fixed → Result Counted DiskPlace → DiskPlace → Type 0
  IsRefusedOf origin pair place = IsRefusedAt (StandsOf machine.fixed origin machine.stands_for machine.stood_for) pair place

  module _ {D : Type 0} (disk : Disk.Ghosts D) where
    -- ---- of the two disks that were handed in, and the machine or the disks that are handed back
    -- at every moment since, one of them could have been left as it was handed in, or they stand for a state for which they stood
    abbrev pub StandsThroughOpening : D → D → D → D → Type 0
    StandsThroughOpening first second first_now second_now =
        EachFrom disk.may_leave disk.moment disk.left_since first second first_now second_now (StandForOne (read_pair disk first second))

    -- whatever was left of each since, but for what a first sync undoes, they stand for the machine's state
    abbrev pub StandsUnlessUndone : D → D → Kept M D T → Type 0
    StandsUnlessUndone first second keep =
        EachUnlessUndone disk.seen disk.may_leave disk.moment disk.left_since first second (first_disk keep.journal) (second_disk keep.journal)
        (λ c d. StandsInEither (machine.state keep.machine) (pair_of c d))

    -- or for what they stood for
    abbrev pub StoodUnlessUndone : D → D → D → D → Type 0
    StoodUnlessUndone first second first_now second_now =
        EachUnlessUndone disk.seen disk.may_leave disk.moment disk.left_since first second first_now second_now
        (λ c d. StandsAsBefore machine.stands_for machine.stood_for (read_pair disk first second) (pair_of c d))

    -- what a caller joins with the call behind it
    abbrev pub BeginsAs : D → D → Kept M D T → Type 0
    BeginsAs first second keep = IsBegun disk.seen disk.moment disk.left_since machine.stands_for first second (machine.state keep.machine) keep.journal

    -- what a crash leaves then: of both what it could have left before, or what stands for a state for which they stood
    abbrev pub LeavesAsBefore : D → D → D → D → Type 0
    LeavesAsBefore first second first_now second_now = (c d : List ℕ) → disk.may_leave first_now c → disk.may_leave second_now d
        → (disk.may_leave first c × disk.may_leave second d) ⊎ StandForOne (read_pair disk first second) (pair_of c d)

    -- the form of their list decides which disk counts then
    abbrev pub CountsByForm : D → D → Kept M D T → Type 0
    CountsByForm first second keep = (read : Counted) → read_pair disk first second ≡ Ok read
        → IsInForm machine.stands_for machine.stood_for (machine.state keep.machine) read.second keep.journal.second (read_pair disk first second)

    -- the calls that they told: the syncs, and a snapshot where the list was in the earlier form
    abbrev pub IsOpened : D → D → Kept M D T → Type 0
    IsOpened first second keep = Opened disk.premise disk.seen disk.told machine.stands_for first second (machine.state keep.machine) keep.journal

    -- those up to one at which a fault was met
    abbrev pub StopsOpening : D → D → D → D → Type 0
    StopsOpening first second first_now second_now = StopsOn disk first second first_now second_now (sync_calls false)
        ⊎ Unwritten disk.premise disk.seen disk.told disk.disk_faults disk.calls_advance machine.stands_for first second first_now second_now

    -- ---- of the journal of such disks
    -- what the machine adds to the images of each
    abbrev pub AddsMachine : State D → Kept M D T → Type 0
    AddsMachine journal keep = Adds disk.moment disk.left_since journal keep.journal
        (LeftIn (stored disk.seen journal) (IsMade machine.stands_for (stored disk.seen journal) (machine.state keep.machine)))

    -- a snapshot of a state for which they stood was begun
    abbrev pub Migrates : State D → D → D → Type 0
    Migrates journal first second = IsMigrating disk.seen disk.moment disk.left_since machine.stands_for machine.stood_for journal first second

    abbrev pub KeepsForm : State D → Kept M D T → Type 0
    KeepsForm journal keep =
        IsInForm machine.stands_for machine.stood_for (machine.state keep.machine) journal.second keep.journal.second (stored disk.seen journal)

    abbrev pub Rewrites : State D → Kept M D T → Type 0
    Rewrites journal keep =
        (image : Option (List ℕ)) × IsRewritten machine.stands_for (machine.state keep.machine) journal image keep.journal
        × TellsIn disk.told journal keep.journal (image_calls journal image)

    -- a fault was met at one of its calls
    abbrev pub StopsRewriting : State D → D → D → Type 0
    StopsRewriting journal first second = (s : machine.State) × (image : List ℕ) × machine.stands_for (image ∷ []) s
        × StopsOn disk (first_disk journal) (second_disk journal) first second (image_calls journal (Some image))
