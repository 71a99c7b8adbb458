-- All that is said of one step of a keep.
use Rattle.std.specs.Prelude.{◌≡◌, ◌≤◌, ◌⊎◌, ℕ, Bool, true, false, List, Option, None, Result, Ok, Err, IfOk, IsTrue, OnOk}
use Rattle.ps_ports.specs.Causes.{Rose}
use Rattle.ps_disks.specs.declared.disk.DiskCall.{DiskCall}
use Rattle.host_journal.specs.Pair.{pair_of}
use Rattle.host_journal.specs.State.{EachImage, EachSince, first_disk, is_ready, second_disk, stored}
use Rattle.machine_keep.specs.Course.{Answered, Unfound, Unkept, OutOfMemory}
use Rattle.machine_keep.specs.Kept.{IsLogBounded, Kept, StandsAround, StandsFor}
use Rattle.machine_keep.specs.declared.fault.StepFault.{StepFault}
use Rattle.machine_keep.specs.declared.fault.StepFault.TheVariants.{Disk, Memory}
use Rattle.host_model.specs.declared.reply.Reply.{Reply}
use Rattle.host_keep.specs.Standing.{Answers, Follows, Seen, StandsNow, after}
use Rattle.host_keep.specs.declared.call.HostCall.{HostCall}
use Rattle.host_keep.specs.declared.call.HostStep.{HostStep}
use Rattle.shared_host.specs.Comes.{bytes_of}
use Rattle.shared_host.specs.Gated.{found, seen_of, stands_there}

abbrev pub is_disk : StepFault → Bool
is_disk Disk = true
is_disk Memory = false

-- a disk failed
abbrev pub is_fault : Result Reply StepFault → Bool
is_fault (Ok said) = false
is_fault (Err fault) = is_disk fault

module _ {D : Type 0} (premise : Type 0) (seen : D → List ℕ) (told : D → Option (List DiskCall)) where
  abbrev pub AnsweredKeep : Kept Seen D HostStep → Kept Seen D HostStep → HostCall → Reply → Type 0
  AnsweredKeep k l call said = Answered premise seen told (λ (h : Seen). h.standing) StandsNow bytes_of Answers Follows after k l call said

  abbrev pub OutOfMemoryKeep : Kept Seen D HostStep → Kept Seen D HostStep → Type 0
  OutOfMemoryKeep k l = OutOfMemory premise seen told (λ (h : Seen). h.standing) StandsNow bytes_of Answers Follows after k l

  abbrev pub UnkeptKeep : (D → ℕ) → (D → D → Type 0) → Kept Seen D HostStep → Kept Seen D HostStep → HostCall → Type 0
  UnkeptKeep faults goes k l call = Unkept premise seen told faults goes (λ (h : Seen). h.standing) StandsNow bytes_of Answers Follows after k l call

  module _ (may_leave : D → List ℕ → Type 0) (moment : D → ℕ) (left_since : D → ℕ → List ℕ → Type 0) (faults : D → ℕ) (goes : D → D → Type 0) where
    pub record Applied (k l : Kept Seen D HostStep) (call : HostCall) (r : Result Reply StepFault) : Type 0 where
      pub answered : IfOk r (AnsweredKeep k l call)
      pub out_of_memory : r ≡ Err Memory → OutOfMemoryKeep k l
      pub failed : r ≡ Err Disk → Unfound told faults goes (λ (h : Seen). h.standing) k l ⊎ UnkeptKeep faults goes k l call
      pub durable : premise → OnOk r (EachImage may_leave l.journal (StandsFor StandsNow l.machine.standing))
      pub same : premise → r ≡ Err Memory → stored seen l.journal ≡ stored seen k.journal
      pub around : premise → IsTrue (is_ready k.journal.pending) → EachSince moment left_since k.journal l.journal (StandsAround StandsNow Answers after k.machine.standing call)
      pub recovers : premise → is_ready k.journal.pending ≡ false
          → (c d : List ℕ) → left_since (first_disk l.journal) (moment (first_disk k.journal)) c → left_since (second_disk l.journal) (moment (second_disk k.journal)) d
          → (may_leave (first_disk k.journal) c ⊎ may_leave (second_disk k.journal) d) ⊎ StandsAround StandsNow Answers after (found (seen_of k) (stands_there seen (seen_of k))) call (pair_of c d)
      pub log_bounded : premise → OnOk r ((l.machine.standing ≡ found (seen_of k) (stands_there seen (seen_of k))) ⊎ (IsLogBounded l.journal ⊎ Rose k.put_off l.put_off))
      pub ready : (r ≡ Err Disk → ⊥) → IsTrue (is_ready l.journal.pending)
      pub fixed : l.machine.standing.config ≡ k.machine.standing.config
      pub later : (faults (first_disk k.journal) ≤ faults (first_disk l.journal)) × (faults (second_disk k.journal) ≤ faults (second_disk l.journal))
      pub no_fault : (r ≡ Err Disk → ⊥) → (faults (first_disk l.journal) ≡ faults (first_disk k.journal)) × (faults (second_disk l.journal) ≡ faults (second_disk k.journal))
      pub cause : r ≡ Err Disk → Rose (faults (first_disk k.journal)) (faults (first_disk l.journal)) ⊎ Rose (faults (second_disk k.journal)) (faults (second_disk l.journal))
      pub order : k.journal.start ≤ k.journal.end
      pub sure : IsTrue (is_ready k.journal.pending) → k.unsure ≡ None
      pub sure_after : IsTrue (is_ready l.journal.pending) → l.unsure ≡ None
