-- How a call of a kept machine ends, and what is made of a step, by what the machine and its disks mean.
use Rattle.std.specs.Prelude.{◌≡◌, ◌⊎◌, ◌-◌, ℕ, Bool, true, List, Option, IfSome, Some}
use Rattle.ps_ports.specs.Causes.{Rose}
use Rattle.ps_disks.specs.declared.disk.Disk as Disk
use Rattle.host_journal.specs.Moments.{Adds, LeftIn}
use Rattle.host_journal.specs.Pair.{pair_of}
use Rattle.host_journal.specs.State.{State, EachImage, EachSince, SameButRoom, first_disk, has_record, second_disk, stored}
use Rattle.machine_keep.specs.BothDisks.{StandsWhere, StopsIn}
use Rattle.machine_keep.specs.Calls.{TellsIn, image_calls}
use Rattle.machine_keep.specs.Course.{Answered, Breaks, IsFound, IsShortened, IsSnapshotOf, IsTurned, Keeps, OutOfMemory, Unfound, Unkept}
use Rattle.machine_keep.specs.Faulted.{Broken, Unsettled}
use Rattle.machine_keep.specs.Kept.{IsLogBounded, IsMade, IsStepMade, Kept, Snapped, StandsAround, StandsExcept, StandsFor, after_step, caught, is_many}
use Rattle.machine_keep.specs.declared.machine.Machine as Machine

-- a journal's records are many
abbrev pub has_many : {D : Type 0} → State D → Bool
has_many s = is_many (s.end - s.start) (s.start - 21)

-- the records are few then, or the snapshot that was due is counted as put off
abbrev pub IsBoundedOrPutOff : {M D T : Type 0} → Kept M D T → Kept M D T → Type 0
IsBoundedOrPutOff old new = IsLogBounded new.journal ⊎ Rose old.put_off new.put_off

module _ {M O C R T : Type 0} (machine : Machine.Ghosts M O C R T) where
  -- the call is answered so in this state, and the step that it makes leads to the later one
  abbrev pub AnswersFrom : machine.State → C → R → machine.State → Type 0
  AnswersFrom s call reply later = (step : Option T) × machine.answers s call reply step × (later ≡ after_step machine.after s step)

  -- nothing changed but the journal's room
  abbrev pub Unmoved : {D : Type 0} → Kept M D T → Kept M D T → Type 0
  Unmoved old new = SameButRoom old.journal new.journal × (machine.state new.machine ≡ machine.state old.machine) × (new.put_off ≡ old.put_off)

  module _ {D : Type 0} (disk : Disk.Ghosts D) where
    -- ---- of one moment
    -- the disks stand for the machine's state
    abbrev pub DisksStand : Kept M D T → Type 0
    DisksStand keep = StandsFor machine.stands_for (machine.state keep.machine) (stored disk.seen keep.journal)

    -- but for a step that is unsure
    abbrev pub StandsButUnsure : Kept M D T → Type 0
    StandsButUnsure keep =
        StandsExcept machine.stands_for machine.record_of (machine.state keep.machine) keep.journal.pending
        (stored disk.seen keep.journal) keep.unsure

    -- and so do they, whatever a crash leaves of each
    abbrev pub IsDurable : Kept M D T → Type 0
    IsDurable keep = EachImage disk.may_leave keep.journal (StandsFor machine.stands_for (machine.state keep.machine))

    -- the state that a call finds: with the step that was unsure, where its record stands
    abbrev pub found_state : Kept M D T → machine.State
    found_state keep = caught machine.after (machine.state keep.machine) keep.unsure (has_record keep.journal.pending (stored disk.seen keep.journal))

    -- ---- of a call, from the machine as it began
    -- the machine is then in the state that the call found
    abbrev pub IsInFound : Kept M D T → Kept M D T → Type 0
    IsInFound old new = machine.state new.machine ≡ found_state old

    -- and the disks stand for what they stood for
    abbrev pub KeepsFound : Kept M D T → Kept M D T → Type 0
    KeepsFound old new = (stored disk.seen new.journal ≡ stored disk.seen old.journal) × IsInFound old new

    -- it found out what stands, if only by what its disks told
    abbrev pub FindsOut : Kept M D T → Kept M D T → Type 0
    FindsOut old new =
        (stood : Bool) × IsFound disk.premise disk.seen old.journal stood new.journal
        × (machine.state new.machine ≡ caught machine.after (machine.state old.machine) old.unsure stood)

    abbrev pub EndsAnswered : Kept M D T → Kept M D T → C → R → Type 0
    EndsAnswered old new call reply =
        Answered disk.premise disk.seen disk.told machine.state machine.stands_for machine.record_of machine.answers machine.follows machine.after
        old new call reply

    abbrev pub EndsOutOfMemory : Kept M D T → Kept M D T → Type 0
    EndsOutOfMemory old new =
        OutOfMemory disk.premise disk.seen disk.told machine.state machine.stands_for machine.record_of machine.answers machine.follows machine.after
        old new

    -- at a fault: before it was known what stands, or as its step was kept
    abbrev pub EndsUnfound : Kept M D T → Kept M D T → Type 0
    EndsUnfound old new = Unfound disk.told disk.disk_faults disk.calls_advance machine.state old new

    abbrev pub EndsUnkept : Kept M D T → Kept M D T → C → Type 0
    EndsUnkept old new call =
        Unkept disk.premise disk.seen disk.told disk.disk_faults disk.calls_advance machine.state machine.stands_for machine.record_of
        machine.answers machine.follows machine.after old new call

    -- the same, and what is known of the disks
    abbrev pub EndsUnsettled : Kept M D T → Kept M D T → Type 0
    EndsUnsettled old new = Unsettled disk.premise disk.seen disk.told disk.disk_faults disk.calls_advance machine.state old new

    abbrev pub EndsBroken : Kept M D T → Kept M D T → C → Type 0
    EndsBroken old new call =
        Broken disk.premise disk.seen disk.may_leave disk.told disk.disk_faults disk.calls_advance machine.state machine.stands_for machine.record_of
        machine.answers machine.follows machine.after old new call

    -- at every moment since it began, the disks stand for the state, or for that after a step that the call asks for
    abbrev pub StandsThroughCall : Kept M D T → Kept M D T → C → Type 0
    StandsThroughCall old new call =
        EachSince disk.moment disk.left_since old.journal new.journal
        (StandsAround machine.stands_for machine.answers machine.after (machine.state old.machine) call)

    -- what it adds to the images of each disk
    abbrev pub AddsAsked : Kept M D T → Kept M D T → C → Type 0
    AddsAsked old new call = Adds disk.moment disk.left_since old.journal new.journal
        (LeftIn (stored disk.seen old.journal)
        (IsStepMade machine.stands_for machine.answers machine.after (stored disk.seen old.journal) (machine.state old.machine) call))

    -- Of a call that began after a fault: an image of one disk could have been left as the call began, or the disks stand for
    -- the state that it found, or for that after a step that it asks for.
    abbrev pub Recovers : Kept M D T → Kept M D T → C → Type 0
    Recovers old new call =
        (c d : List ℕ) → disk.left_since (first_disk new.journal) (disk.moment (first_disk old.journal)) c
        → disk.left_since (second_disk new.journal) (disk.moment (second_disk old.journal)) d
        → (disk.may_leave (first_disk old.journal) c ⊎ disk.may_leave (second_disk old.journal) d)
        ⊎ StandsAround machine.stands_for machine.answers machine.after (found_state old) call (pair_of c d)

    -- ---- of a step that is kept
    abbrev pub KeepsStep : Kept M D T → Kept M D T → Option T → Type 0
    KeepsStep old new step = Keeps disk.told machine.state machine.stands_for machine.record_of machine.after old new step

    abbrev pub BreaksStep : Kept M D T → Kept M D T → Option T → Type 0
    BreaksStep old new step =
        Breaks disk.told disk.disk_faults disk.calls_advance machine.state machine.stands_for machine.record_of machine.after old new step

    -- the disks and the machine stand for what they stood for
    abbrev pub KeepsAll : Kept M D T → Kept M D T → Type 0
    KeepsAll old new = (stored disk.seen new.journal ≡ stored disk.seen old.journal) × (machine.state new.machine ≡ machine.state old.machine)

    -- at every moment the disks stand for the state, or for that after the step
    abbrev pub StandsThroughStep : Kept M D T → Kept M D T → T → Type 0
    StandsThroughStep old new step = EachSince disk.moment disk.left_since old.journal new.journal
        (λ pair. StandsFor machine.stands_for (machine.state old.machine) pair
        ⊎ StandsFor machine.stands_for (machine.after (machine.state old.machine) step) pair)

    -- or, where there is none, for the state alone
    abbrev pub StandsThroughDecided : Kept M D T → Kept M D T → Option T → Type 0
    StandsThroughDecided old new decided = EachSince disk.moment disk.left_since old.journal new.journal
        (λ pair. StandsFor machine.stands_for (machine.state old.machine) pair
        ⊎ ((step : T) × ((decided ≡ Some step) × StandsFor machine.stands_for (machine.after (machine.state old.machine) step) pair)))

    -- what is added to the images of each disk
    abbrev pub AddsStep : Kept M D T → Kept M D T → T → Type 0
    AddsStep old new step = Adds disk.moment disk.left_since old.journal new.journal
        (LeftIn (stored disk.seen old.journal) (IsMade machine.stands_for (stored disk.seen old.journal) (machine.after (machine.state old.machine) step)))

    abbrev pub AddsDecided : Kept M D T → Kept M D T → Option T → Type 0
    AddsDecided old new decided = Adds disk.moment disk.left_since old.journal new.journal
        (LeftIn (stored disk.seen old.journal)
        (λ pair. (step : T) × ((decided ≡ Some step) × IsMade machine.stands_for (stored disk.seen old.journal) (machine.after (machine.state old.machine) step) pair)))

    -- where a step is unsure then, its record stands where a reload is to answer so
    abbrev pub UnsureStandsWhere : Kept M D T → Kept M D T → Type 0
    UnsureStandsWhere old new = IfSome new.unsure (λ step. StandsWhere disk (machine.record_of step) old.journal new.journal)

    -- ---- of a snapshot
    -- what one of this state adds to the images of each disk
    abbrev pub AddsSnapshot : machine.State → State D → State D → Type 0
    AddsSnapshot s old new = Adds disk.moment disk.left_since old new (Snapped disk.seen machine.stands_for s old)

    -- where the disks stood for this state they stand for it
    abbrev pub StillStands : machine.State → State D → State D → Type 0
    StillStands s old new = StandsFor machine.stands_for s (stored disk.seen old) → StandsFor machine.stands_for s (stored disk.seen new)

    -- one of this state was put in place of the records
    abbrev pub PutsSnapshot : machine.State → State D → State D → Type 0
    PutsSnapshot s old new =
        (image : List ℕ) × IsSnapshotOf machine.stands_for s old.generation image × IsTurned image old new
        × TellsIn disk.told old new (image_calls old (Some image))

    -- a fault was met at one of its calls
    abbrev pub StopsInSnapshot : machine.State → State D → State D → Type 0
    StopsInSnapshot s old new =
        (image : List ℕ) × IsSnapshotOf machine.stands_for s old.generation image × StopsIn disk old new (image_calls old (Some image))

    -- where the records are many one was made, or put off and counted
    abbrev pub ShortensLog : Kept M D T → Kept M D T → Type 0
    ShortensLog old new =
        (image : Option (List ℕ)) × IsShortened machine.stands_for (machine.state old.machine) old.put_off new.put_off old.journal image new.journal
        × TellsIn disk.told old.journal new.journal (image_calls old.journal image)

    -- they are many, and a fault was met at one of its calls
    abbrev pub StopsShortening : Kept M D T → Kept M D T → Type 0
    StopsShortening old new =
        (image : List ℕ) × (has_many old.journal ≡ true) × IsSnapshotOf machine.stands_for (machine.state old.machine) old.journal.generation image
        × StopsIn disk old.journal new.journal (image_calls old.journal (Some image))
