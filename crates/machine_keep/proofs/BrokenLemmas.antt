-- A call that met a fault as its step was kept, from the clauses of what it calls.
use Rattle.std.proofs.Common.{◌≡◌, ℕ, ◌-◌, ◌≤◌, Bool, List, ◌++◌, length, IfSome, Option, Result, ap, arith, length-append, option_map, subst, sym, ◌∙◌}
use Rattle.ps_disks.specs.declared.disk.DiskCall.{DiskCall}
use Rattle.host_journal.specs.Pair.{pair_of}
use Rattle.host_journal.specs.State.{IsSound, State, first_disk, has_record, is_ready, second_disk, stored, which}
use Rattle.host_journal.specs.declared.reading.Counted.{Counted}
use Rattle.host_journal.specs.declared.reading.DiskPlace.{DiskPlace}
use Rattle.machine_keep.specs.Calls.{MakesPair, TellsSomeIn, kept_calls, sync_calls}
use Rattle.machine_keep.specs.Course.{IsBehindRecord, IsDue, IsFound, Leaves}
use Rattle.machine_keep.specs.Faulted.{Broken}
use Rattle.machine_keep.specs.Kept.{Kept, StandsFor, after_step, caught}
use Rattle.machine_keep.proofs.CallLemmas.{some_later}

module _ {M D S C R T : Type 0} (premise : Type 0) (seen : D → List ℕ) (may_leave : D → List ℕ → Type 0) (told : D → Option (List DiskCall)) (faults : D → ℕ) (calls_advance : D → D → Type 0)
    (calls_advance_refl : (disk : D) → calls_advance disk disk) (calls_advance_trans : (a b c : D) → calls_advance a b → calls_advance b c → calls_advance a c) (state : M → S) (stands : List (List ℕ) → S → Type 0)
    (bytes : T → List ℕ) (answers : S → C → R → Option T → Type 0) (follows : S → T → Type 0) (after : S → T → S)
    (old new : Kept M D T) (place : State D) (call : C) (reply : R) (step : Option T) (stood : Bool) where
  abbrev now : S
  now = caught after (state old.machine) old.unsure stood

  abbrev syncs : ℕ
  syncs = length (sync_calls (is_ready old.journal.pending))

  read_so : (seen (first_disk place) ≡ seen (first_disk old.journal)) × (seen (second_disk place) ≡ seen (second_disk old.journal)) → stored seen place ≡ stored seen old.journal
  read_so read = ap (λ (l : List ℕ). pair_of l (seen (second_disk place))) read.0 ∙ ap (pair_of (seen (first_disk old.journal))) read.1

  pub broken_so : (machine : M) → IsFound premise seen old.journal stood place → state machine ≡ now → answers now call reply step → IfSome step (λ t. follows now t) → IfSome step (λ t. length (bytes t) ≤ 8_388_608)
      → MakesPair told faults calls_advance (first_disk old.journal) (second_disk old.journal) (first_disk place) (second_disk place) (sync_calls (is_ready old.journal.pending))
      → (image : Option (List ℕ)) → IsDue stands (after_step after (state machine) step) place (option_map bytes step) image → Leaves after (state machine) step image (state new.machine) new.unsure
      → (kept : TellsSomeIn told faults calls_advance place new.journal (kept_calls place (option_map bytes step) image)) → IsBehindRecord image (length kept.made)
      → (premise → IsSound seen may_leave place) → (premise → (seen (first_disk place) ≡ seen (first_disk old.journal)) × (seen (second_disk place) ≡ seen (second_disk old.journal)))
      → (premise → StandsFor stands (state machine) (stored seen place))
      → (premise → IfSome new.unsure (λ t. stored seen new.journal ≡ which (bytes t) (has_record new.journal.pending (stored seen new.journal)) (stored seen place)))
      → Broken premise seen may_leave told faults calls_advance state stands bytes answers follows after old new call
  broken_so machine found same answered may short synced image due left kept behind sound read stood_for is_found =
      let size = length-append (sync_calls (is_ready old.journal.pending)) kept.made in
      let less : (length (sync_calls (is_ready old.journal.pending) ++ kept.made)) - syncs ≡ length kept.made = omega (arith, size) in
      let some : syncs ≤ length (sync_calls (is_ready old.journal.pending) ++ kept.made) = omega (arith, size) in
      record {
        unkept = record {
          stood = stood;
          place = place;
          found = found;
          reply = reply;
          step = step;
          answered = answered;
          may = may;
          image = image;
          due = subst (λ s. IsDue stands (after_step after s step) place (option_map bytes step) image) same due;
          left = subst (λ s. Leaves after s step image (state new.machine) new.unsure) same left;
          told = some_later told faults calls_advance calls_advance_refl calls_advance_trans (first_disk old.journal) (second_disk old.journal) (first_disk place) (second_disk place) (first_disk new.journal) (second_disk new.journal)
              (sync_calls (is_ready old.journal.pending)) (kept_calls place (option_map bytes step) image) synced kept;
        };
        short = short;
        synced = some;
        behind = subst (IsBehindRecord image) (sym less) behind;
        sound = sound;
        read = read;
        stood = λ p. subst (StandsFor stands now) (read_so (read p)) (subst (λ s. StandsFor stands s (stored seen place)) same (stood_for p));
        found = λ p. subst (λ (pair : Result Counted DiskPlace). IfSome new.unsure (λ t. stored seen new.journal ≡ which (bytes t) (has_record new.journal.pending (stored seen new.journal)) pair)) (read_so (read p)) (is_found p);
      }
