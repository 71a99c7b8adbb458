-- What is said of a call of a kept host, said of what is seen of it.
use Rattle.std.specs.Prelude.{Bool}
use Rattle.std.proofs.Common.{◌≡◌, ℕ, List, Option, None, Some, Result, Ok, Err, ap, option_map, refl, subst}
use Rattle.ps_disks.specs.declared.disk.DiskCall.{DiskCall}
use Rattle.host_journal.specs.State.{State, IsAt, SameButRoom, is_ready, stored, with_room}
use Rattle.host_journal.specs.declared.reading.Counted.{Counted}
use Rattle.host_journal.specs.declared.reading.DiskPlace.{DiskPlace}
use Rattle.machine_keep.specs.Calls.{PairCalls, TellsIn, TellsSomeIn, step_calls}
use Rattle.machine_keep.specs.Course.{Answered, IsDue, IsFound, Moves, Shortens, Unfound, Unkept, OutOfMemory}
use Rattle.machine_keep.specs.Kept.{Kept, after_step, caught}
use Rattle.host_model.specs.declared.reply.Reply.{Reply}
use Rattle.host_keep.specs.Standing.{Answers, Follows, Seen, Standing, StandsNow, after}
use Rattle.host_keep.specs.declared.call.HostCall.{HostCall}
use Rattle.host_keep.specs.declared.call.HostStep.{HostStep}
use Rattle.shared_host.specs.Applied.{AnsweredKeep, UnkeptKeep, OutOfMemoryKeep}
use Rattle.shared_host.specs.Comes.{bytes_of}
use Rattle.shared_host.specs.Gated.{seen_of}

-- ---- a journal without its room
pub same_bare : {D : Type 0} (s now : State D) → SameButRoom s now → with_room now 0 ≡ with_room s 0
same_bare {D} s now same = ap (λ (x : State D). with_room x 0) same

pub at_bare : {D : Type 0} (s : State D) (pair : Result Counted DiskPlace) → IsAt s pair → IsAt (with_room s 0) pair
at_bare s (Ok k) at = at
at_bare s (Err place) at = at

pub found_bare : {D : Type 0} (premise : Type 0) (seen : D → List ℕ) (old place : State D) (stood : Bool) → IsFound premise seen old stood place → IsFound premise seen (with_room old 0) stood (with_room place 0)
found_bare {D} premise seen old place stood f = record {
  same = λ ready. ap (λ (x : State D). with_room x 0) (f.same ready);
  ready = f.ready;
  at = λ p. at_bare place (stored seen old) (f.at p);
  stands = f.stands;
  shut = f.shut;
}

pub shortened_bare : {D S : Type 0} (stands : List (List ℕ) → S → Type 0) (s : S) (off off_now : ℕ) (place : State D) (o i : Option (List ℕ)) → Shortens stands s off off_now place o i → Shortens stands s off off_now (with_room place 0) o i
shortened_bare stands s off off_now place None i x = x
shortened_bare stands s off off_now place (Some payload) None x = x
shortened_bare stands s off off_now place (Some payload) (Some image) x = x

pub moved_bare : {D : Type 0} (place now : State D) (o i : Option (List ℕ)) → Moves place o i now → Moves (with_room place 0) o i (with_room now 0)
moved_bare place now None i m = same_bare place now m
moved_bare place now (Some payload) None m = record { second = m.second; generation = m.generation; start = m.start; shut = m.shut; end = m.end }
moved_bare place now (Some payload) (Some image) m = record { second = m.second; generation = m.generation; start = m.start; end = m.end }

due_bare : {D S : Type 0} (stands : List (List ℕ) → S → Type 0) (s : S) (place : State D) (o i : Option (List ℕ)) → IsDue stands s place o i → IsDue stands s (with_room place 0) o i
due_bare stands s place None None x = x
due_bare stands s place (Some payload) None x = x
due_bare stands s place None (Some image) x = x
due_bare stands s place (Some payload) (Some image) x = x

pub calls_bare : {D : Type 0} (ready : Bool) (place : State D) (o i : Option (List ℕ)) → step_calls ready place o i ≡ step_calls ready (with_room place 0) o i
calls_bare ready place None None = refl
calls_bare ready place None (Some image) = refl
calls_bare ready place (Some payload) None = refl
calls_bare ready place (Some payload) (Some image) = refl

-- ---- the three ends of a call
module _ {D : Type 0} (premise : Type 0) (seen : D → List ℕ) (told : D → Option (List DiskCall)) (k l : Kept Seen D HostStep) where
  abbrev pub answered_seen : (call : HostCall) (said : Reply) → AnsweredKeep premise seen told k l call said
      → Answered premise seen told (λ (s : Standing). s) StandsNow bytes_of Answers Follows after (seen_of k) (seen_of l) call said
  answered_seen call said a = record {
    stood = a.stood;
    place = with_room a.place 0;
    found = found_bare premise seen k.journal a.place a.stood a.found;
    step = a.step;
    answered = a.answered;
    may = a.may;
    became = a.became;
    image = a.image;
    shortened = shortened_bare StandsNow l.machine.standing k.put_off l.put_off a.place (option_map bytes_of a.step) a.image a.shortened;
    moved = moved_bare a.place l.journal (option_map bytes_of a.step) a.image a.moved;
    told = subst (λ (cs : PairCalls). TellsIn told k.journal l.journal cs) (calls_bare (is_ready k.journal.pending) a.place (option_map bytes_of a.step) a.image) a.told;
  }

  pub out_of_memory_seen : OutOfMemoryKeep premise seen told k l → OutOfMemory premise seen told (λ (s : Standing). s) StandsNow bytes_of Answers Follows after (seen_of k) (seen_of l)
  out_of_memory_seen w = record {
    stood = w.stood;
    place = with_room w.place 0;
    found = found_bare premise seen k.journal w.place w.stood w.found;
    became = w.became;
    same = same_bare w.place l.journal w.same;
    put_off = w.put_off;
    told = w.told;
  }

module _ {D : Type 0} (premise : Type 0) (seen : D → List ℕ) (told : D → Option (List DiskCall)) (faults : D → ℕ) (goes : D → D → Type 0) (k l : Kept Seen D HostStep) where
  pub unfound_seen : Unfound told faults goes (λ (h : Seen). h.standing) k l → Unfound told faults goes (λ (s : Standing). s) (seen_of k) (seen_of l)
  unfound_seen u = record { became = u.became; unsure = u.unsure; told = u.told }

  pub unkept_seen : (call : HostCall) → UnkeptKeep premise seen told faults goes k l call → Unkept premise seen told faults goes (λ (s : Standing). s) StandsNow bytes_of Answers Follows after (seen_of k) (seen_of l) call
  unkept_seen call u = record {
    stood = u.stood;
    place = with_room u.place 0;
    found = found_bare premise seen k.journal u.place u.stood u.found;
    reply = u.reply;
    step = u.step;
    answered = u.answered;
    may = u.may;
    image = u.image;
    due = due_bare StandsNow (after_step after (caught after k.machine.standing k.unsure u.stood) u.step) u.place (option_map bytes_of u.step) u.image u.due;
    left = u.left;
    told = subst (λ (cs : PairCalls). TellsSomeIn told faults goes k.journal l.journal cs) (calls_bare (is_ready k.journal.pending) u.place (option_map bytes_of u.step) u.image) u.told;
  }
