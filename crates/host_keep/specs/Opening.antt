-- A host that is opened: what its disks stood for, and the calls that they tell of the opening and of the first step.
use Rattle.std.specs.Prelude.{◌++◌, ℕ, Option, List, false}
use Rattle.std.specs.Option.{option_map}
use Rattle.host_journal.specs.Pair.{pair_of}
use Rattle.host_journal.specs.State.{State, first_disk, second_disk}
use Rattle.host_model.specs.Book.{Book}
use Rattle.host_model.specs.Step.{step_book}
use Rattle.host_model.specs.declared.config.Config.{Config}
use Rattle.host_model.specs.declared.input.Input.TheVariants.{Open}
use Rattle.host_model.specs.declared.reply.Reply.{Reply}
use Rattle.machine_keep.specs.Calls.{PairCalls, TellsPair, TellsSome, image_calls, kept_calls, sync_calls}
use Rattle.machine_keep.specs.Course.{Answered, Opened, Unkept}
use Rattle.machine_keep.specs.Kept.{Kept, StandsEither}
use Rattle.machine_keep.specs.Opening.{StandsThrough}
use Rattle.ps_disks.specs.declared.disk.DiskCall.{DiskCall}
use Rattle.host_keep.specs.Standing.{Answers, Follows, Seen, Standing, StandsNow, StoodOnce, after}
use Rattle.host_keep.specs.declared.call.HostCall.{HostCall}
use Rattle.host_keep.specs.declared.call.HostStep.{HostStep}

-- a host that is kept on such disks
abbrev pub KeptHost : Type 0 → Type 0
KeptHost D = Kept Seen D HostStep

-- what its first step is asked
abbrev pub first_call : ℕ → HostCall
first_call clock = record { clock = clock; input = Open }

-- the host after that step, if it had this book before
abbrev pub started : Config → Book → ℕ → Standing
started config before clock = record { config = config; book = step_book config before clock Open }

module _ {D : Type 0} (seen : D → List ℕ) (may_leave : D → List ℕ → Type 0) (moment : D → ℕ) (left_since : D → ℕ → List ℕ → Type 0) (goes : D → D → Type 0) (config : Config) (clock : ℕ) (first second : D) where
  -- The disks stood for this book as they were handed in. Since then they stand for it, or for the book after the first step.
  pub record IsStarting (before : Book) (first_now second_now : D) : Type 0 where
    pub stood : StandsEither StandsNow StoodOnce (record { config = config; book = before }) (pair_of (seen first) (seen second))
    pub stands : StandsThrough seen may_leave moment left_since goes StandsNow StoodOnce first second (record { config = config; book = before }) (started config before clock) first_now second_now

-- ---- calls
-- the calls of an opening: a sync of each disk, and those of a snapshot where there is one
abbrev pub opening_calls : {D : Type 0} → State D → Option (List ℕ) → PairCalls
opening_calls place image = sync_calls false ++ image_calls place image

-- those of a step that is kept from this place on
abbrev pub start_calls : {D : Type 0} → State D → Option HostStep → Option (List ℕ) → PairCalls
start_calls place step image = kept_calls place (option_map (λ (s : HostStep). s.record.items) step) image

-- the first step was answered, or it met a fault
abbrev pub IsFirstAnswer : {D : Type 0} → Type 0 → (D → List ℕ) → (D → Option (List DiskCall)) → ℕ → KeptHost D → KeptHost D → Reply → Type 0
IsFirstAnswer premise seen tells clock mid now reply = Answered premise seen tells (λ (m : Seen). m.standing) StandsNow (λ (s : HostStep). s.record.items) Answers Follows after mid now (first_call clock) reply

abbrev pub IsFirstFault : {D : Type 0} → Type 0 → (D → List ℕ) → (D → Option (List DiskCall)) → (D → ℕ) → (D → D → Type 0) → ℕ → KeptHost D → KeptHost D → Type 0
IsFirstFault premise seen tells faults goes clock mid now = Unkept premise seen tells faults goes (λ (m : Seen). m.standing) StandsNow (λ (s : HostStep). s.record.items) Answers Follows after mid now (first_call clock)

module _ {D : Type 0} (premise : Type 0) (seen : D → List ℕ) (tells : D → Option (List DiskCall)) (clock : ℕ) (first second : D) where
  -- the first step was answered
  pub record Started (now : KeptHost D) : Type 0 where
    pub mid : KeptHost D
    pub opened : Opened premise seen tells StandsNow first second mid.machine.standing mid.journal
    pub reply : Reply
    pub answered : IsFirstAnswer premise seen tells clock mid now reply
    pub told : TellsPair tells first second (first_disk now.journal) (second_disk now.journal) (opening_calls opened.place opened.image ++ start_calls answered.place answered.step answered.image)

  -- it was refused, or memory ran out: it made no call of a disk
  pub record Unstarted (first_now second_now : D) : Type 0 where
    pub mid : KeptHost D
    pub opened : Opened premise seen tells StandsNow first second mid.machine.standing mid.journal
    pub told : TellsPair tells first second first_now second_now (opening_calls opened.place opened.image)

module _ {D : Type 0} (premise : Type 0) (seen : D → List ℕ) (tells : D → Option (List DiskCall)) (faults : D → ℕ) (goes : D → D → Type 0) (clock : ℕ) (first second : D) where
  -- it met a fault
  pub record Halted (first_now second_now : D) : Type 0 where
    pub mid : KeptHost D
    pub opened : Opened premise seen tells StandsNow first second mid.machine.standing mid.journal
    pub now : KeptHost D
    pub unkept : IsFirstFault premise seen tells faults goes clock mid now
    pub told : TellsSome tells faults goes first second first_now second_now (opening_calls opened.place opened.image ++ start_calls unkept.place unkept.step unkept.image)
