-- What a call of a kept host comes to behind a gate: its reply, whether it counts as a change, and the state that it leaves.
use Rattle.std.specs.Prelude.{◌≡◌, ◌⊎◌, ◌||◌, ℕ, Bool, true, false, not, is_some, List, Option, Result, Ok, Err, IfOk}
use Rattle.ps_ports.specs.Causes.{Rose}
use Rattle.ps_disks.specs.declared.disk.DiskCall.{DiskCall}
use Rattle.host_journal.specs.Pair.{pair_of}
use Rattle.host_journal.specs.State.{EachImage, EachSince, first_disk, is_ready, second_disk, stored}
use Rattle.machine_keep.specs.Course.{Answered, Unfound, Unkept, OutOfMemory}
use Rattle.machine_keep.specs.Kept.{IsLogBounded, StandsAround, StandsFor}
use Rattle.machine_keep.specs.declared.fault.StepFault.{StepFault}
use Rattle.machine_keep.specs.declared.fault.StepFault.TheVariants.{Disk, Memory}
use Rattle.host_model.specs.Archives.{attempt_of, due}
use Rattle.host_model.specs.Orders.{orders}
use Rattle.host_model.specs.Step.{step_book, step_reply}
use Rattle.host_model.specs.declared.reply.Reply.{Reply}
use Rattle.host_keep.specs.Standing.{Answers, Follows, Standing, StandsNow, after}
use Rattle.host_keep.specs.declared.call.HostCall.{HostCall}
use Rattle.host_keep.specs.declared.call.HostStep.{HostStep}
use Rattle.shared_host.specs.Gated.{Gated, found, stands_there}
use Rattle.shared_host.specs.declared.call.KeepCall.{KeepCall}
use Rattle.shared_host.specs.declared.call.KeepCall.TheVariants.{Apply, Orders, Due, Attempt}
use Rattle.shared_host.specs.declared.call.KeepReply.{KeepReply}
use Rattle.shared_host.specs.declared.call.KeepReply.TheVariants as reply

-- the bytes of a step's record
abbrev pub bytes_of : HostStep → List ℕ
bytes_of step = step.record.items

-- no count of faults rose
abbrev pub IsCalm : {D : Type 0} → (D → ℕ) → Gated D → Gated D → Type 0
IsCalm faults x y = (faults (first_disk y.journal) ≡ faults (first_disk x.journal)) × (faults (second_disk y.journal) ≡ faults (second_disk x.journal))

module _ {D : Type 0} (premise : Type 0) (seen : D → List ℕ) (told : D → Option (List DiskCall)) (may_leave : D → List ℕ → Type 0) (faults : D → ℕ) (goes : D → D → Type 0) where
  -- a step that was answered
  pub record IsAnswered (x y : Gated D) (call : HostCall) (said : Reply) (changed : Bool) : Type 0 where
    -- of any kept machine: what was found, the step, the snapshot if one was made, and what the disks tell
    pub course : Answered premise seen told (λ (s : Standing). s) StandsNow bytes_of Answers Follows after x y call said
    -- the reply and the book are those of the host's definition, from the host that was found
    pub says : said ≡ step_reply x.machine.config (found x course.stood).book call.clock call.input
    pub book : y.machine.book ≡ step_book x.machine.config (found x course.stood).book call.clock call.input
    -- whatever a crash leaves then stands for the host
    pub durable : premise → EachImage may_leave y.journal (StandsFor StandsNow y.machine)
    pub log_bounded : premise → (y.machine ≡ found x (stands_there seen x)) ⊎ (IsLogBounded y.journal ⊎ Rose x.put_off y.put_off)
    pub ready : is_ready y.journal.pending ≡ true
    pub no_fault : IsCalm faults x y
    -- it counts where there is a step, or where it found out what stands after a fault
    pub counts : changed ≡ (not (is_ready x.journal.pending) || is_some course.step)

  -- one for which there was no memory: nothing but what was found out
  pub record IsOutOfMemory (x y : Gated D) (changed : Bool) : Type 0 where
    pub course : OutOfMemory premise seen told (λ (s : Standing). s) StandsNow bytes_of Answers Follows after x y
    pub same : premise → stored seen y.journal ≡ stored seen x.journal
    pub ready : is_ready y.journal.pending ≡ true
    pub no_fault : IsCalm faults x y
    pub counts : changed ≡ not (is_ready x.journal.pending)

  -- one at which a disk failed: the step that it makes is unsure, or stands already
  pub record IsFailed (x y : Gated D) (call : HostCall) (changed : Bool) : Type 0 where
    pub course : Unfound told faults goes (λ (s : Standing). s) x y ⊎ Unkept premise seen told faults goes (λ (s : Standing). s) StandsNow bytes_of Answers Follows after x y call
    pub cause : Rose (faults (first_disk x.journal)) (faults (first_disk y.journal)) ⊎ Rose (faults (second_disk x.journal)) (faults (second_disk y.journal))
    pub counts : changed ≡ true

  -- what a step comes to
  abbrev pub Comes : Gated D → HostCall → Result Reply StepFault → Bool → Gated D → Type 0
  Comes x call (Ok said) changed y = IsAnswered x y call said changed
  Comes x call (Err Disk) changed y = IsFailed x y call changed
  Comes x call (Err Memory) changed y = IsOutOfMemory x y changed

module _ {D : Type 0} (premise : Type 0) (seen : D → List ℕ) (may_leave : D → List ℕ → Type 0) (moment : D → ℕ) (left_since : D → ℕ → List ℕ → Type 0) where
  -- Whatever it comes to, at each moment of it a crash leaves what stands for the host before it or after it. Where it begins after a
  -- fault, so from the syncs on with which it begins; until then what a crash could have left before.
  pub record AtEachMoment (x y : Gated D) (call : HostCall) : Type 0 where
    pub around : premise → is_ready x.journal.pending ≡ true → EachSince moment left_since x.journal y.journal (StandsAround StandsNow Answers after x.machine call)
    pub recovers : premise → is_ready x.journal.pending ≡ false
        → (c d : List ℕ) → left_since (first_disk y.journal) (moment (first_disk x.journal)) c → left_since (second_disk y.journal) (moment (second_disk x.journal)) d
        → (may_leave (first_disk x.journal) c ⊎ may_leave (second_disk x.journal) d) ⊎ StandsAround StandsNow Answers after (found x (stands_there seen x)) call (pair_of c d)

-- a call that only reads
abbrev pub Reads : {D : Type 0} → Gated D → Bool → Gated D → Type 0
Reads x changed y = (y ≡ x) × (changed ≡ false)

module _ {D : Type 0} (premise : Type 0) (seen : D → List ℕ) (told : D → Option (List DiskCall)) (may_leave : D → List ℕ → Type 0) (moment : D → ℕ) (left_since : D → ℕ → List ℕ → Type 0) (faults : D → ℕ) (goes : D → D → Type 0) where
  -- a call may go from the first state to the second, with this reply, and whether it counts as a change
  abbrev pub Steps : Gated D → KeepCall → KeepReply → Bool → Gated D → Type 0
  Steps x (Apply call) (reply.Answer r) changed y = Comes premise seen told may_leave faults goes x call r changed y × AtEachMoment premise seen may_leave moment left_since x y call
  Steps x (Orders clock) (reply.Orders r) changed y = IfOk r (λ list. list ≡ orders x.machine.book clock) × Reads x changed y
  Steps x (Due clock) (reply.Due r) changed y = IfOk r (λ list. list ≡ due x.machine.book clock) × Reads x changed y
  Steps x (Attempt key index) (reply.Attempt r) changed y = IfOk r (λ made. made ≡ attempt_of x.machine.book key index) × Reads x changed y
  Steps x _ _ changed y = ⊥
