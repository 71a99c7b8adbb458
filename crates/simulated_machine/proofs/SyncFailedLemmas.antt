-- What a sync that failed makes of what is held.
use Rattle.std.specs.Prelude.{nat_lt}
use Rattle.std.proofs.Common.{◌≡◌, ◌∙◌, ℕ, ◌+◌, ◌^◌, ◌<◌, ◌≤◌, Bool, true, false, not, if◌then◌else◌, List, ◌∷◌, ◌++◌, length, take, Option, None, Some, Result, Ok, ap, arith, refl, sym, subst, length-append}
use Rattle.ps_ports.specs.Causes.{counted}
use Rattle.ps_disks.specs.History.{bytes_now, image_bytes}
use Rattle.ps_disks.specs.Images.{bytes_stand}
use Rattle.ps_disks.specs.MemoryDisk.{DiskState, told_calls}
use Rattle.ps_disks.specs.Run.{Went}
use Rattle.ps_disks.specs.declared.image.Image.{Image}
use Rattle.ps_disks.specs.declared.image.Image.TheVariants.{New}
use Rattle.host_journal.specs.Crash.{is_new}
use Rattle.host_journal.specs.Pair.{pair_of}
use Rattle.host_journal.specs.State.{first_disk, has_record, is_ready, second_disk, stored}
use Rattle.host_journal.specs.declared.pending.Pending.{Pending}
use Rattle.host_journal.specs.declared.reading.Counted.{Counted}
use Rattle.host_journal.specs.declared.reading.DiskPlace.{DiskPlace}
use Rattle.machine_keep.specs.Calls.{TellsSomeIn, sync_calls}
use Rattle.machine_keep.specs.FaultLeft.{LeftStill}
use Rattle.machine_keep.specs.Faulted.{Unsettled, seen_on}
use Rattle.machine_keep.specs.Kept.{Kept, caught}
use Rattle.machine_keep.specs.Stopped.{StopsAt}
use Rattle.simulated_machine.specs.Held.{Held, Unsynced, armed_at, four, schedule, seven, syncs}
use Rattle.simulated_machine.specs.IsHeld.{HasFaults, HasMade, IsHeld, Leaves, LeavesUnsynced}
use Rattle.simulated_machine.specs.AfterStep.{SyncFailed, unsynced_still}
use Rattle.simulated_machine.proofs.MadeLemmas.{disks_of, fault_in, first_armed, made_as, more_faults, same_number, second_armed}

module _ {M S T : Type 0} (state : M → S) (stands : List (List ℕ) → S → Type 0) (after : S → T → S) (old new : Kept M DiskState T) (h : Held S) (most : ℕ)
    (held : IsHeld state stands after old h) (few : HasFaults old.journal most) (small : most + 2 < 2 ^ 64)
    (unsettled : Unsettled (Unit {0}) seen_on told_calls (λ (d : DiskState). counted d.faults) Went state old new)
    (fed_one : (first_disk new.journal).starved ≡ false) (fed_two : (second_disk new.journal).starved ≡ false)
    (still : LeftStill h.first h.second old.journal new.journal)
    (stopped : (n : ℕ) × StopsAt h.first h.second old.journal new.journal (sync_calls (is_ready old.journal.pending)) n) where
  unready_at : (ready : Bool) → TellsSomeIn told_calls (λ (d : DiskState). counted d.faults) Went old.journal new.journal (sync_calls ready) → ready ≡ false
  unready_at true told = absurd (omega (arith, ap length told.split, length-append told.made (told.last ∷ told.rest)))
  unready_at false told = refl

  unready : is_ready old.journal.pending ≡ false
  unready = unready_at (is_ready old.journal.pending) unsettled.unfound.told

  stops : StopsAt h.first h.second old.journal new.journal (sync_calls false) stopped.0
  stops = subst (λ (b : Bool). StopsAt h.first h.second old.journal new.journal (sync_calls b) stopped.0) unready stopped.1

  is_number : stopped.0 ≡ still.number
  is_number = same_number stopped.0 still.number (sym stops.place ∙ still.place)

  abbrev still_in : Image → Image → Result Counted DiskPlace
  still_in one two = pair_of (image_bytes one (first_disk new.journal).history) (image_bytes two (second_disk new.journal).history)

  -- an image of the first disk, where that was made sure of or not
  abbrev first_was : Bool → Image → List ℕ
  first_was sure image = if sure then bytes_now (first_disk old.journal).history else image_bytes image (first_disk old.journal).history

  module _ (sure : Bool) (first_image : (image : Image) → image_bytes image (first_disk new.journal).history ≡ first_was sure image) where
    pair_was : (one two : Image) → still_in one two ≡ pair_of (first_was sure one) (image_bytes two (second_disk old.journal).history)
    pair_was one two = ap (λ (l : List ℕ). pair_of l (image_bytes two (second_disk new.journal).history)) (first_image one) ∙ ap (pair_of (first_was sure one)) (still.second_image two)

    new_was : (b : Bool) → (if b then bytes_now (first_disk old.journal).history else image_bytes New (first_disk old.journal).history) ≡ bytes_now (first_disk old.journal).history
    new_was true = refl
    new_was false = sym (bytes_stand (first_disk old.journal).history)

    reads_was : seen_on (first_disk new.journal) ≡ seen_on (first_disk old.journal)
    reads_was = bytes_stand (first_disk new.journal).history ∙ (first_image New ∙ new_was sure)

    synced_was : (image : Image) → pair_of (seen_on (first_disk new.journal)) (image_bytes image (second_disk new.journal).history) ≡ pair_of (seen_on (first_disk old.journal)) (image_bytes image (second_disk old.journal).history)
    synced_was image = ap (λ (l : List ℕ). pair_of l (image_bytes image (second_disk new.journal).history)) reads_was ∙ ap (pair_of (seen_on (first_disk old.journal))) (still.second_image image)

  none_left : (sure : Bool) → ((image : Image) → image_bytes image (first_disk new.journal).history ≡ first_was sure image)
      → Leaves stands (state old.machine) old.journal held.read None → Leaves stands (state new.machine) new.journal held.read None
  none_left false first_image left one two = pair_was false first_image one two ∙ left one two
  none_left true first_image left one two =
      pair_was true first_image one two
      ∙ (ap (λ (l : List ℕ). pair_of l (image_bytes two (second_disk old.journal).history)) (bytes_stand (first_disk old.journal).history) ∙ left New two)

  module _ (unsynced : Unsynced S) (left : LeavesUnsynced stands (state old.machine) old.journal held.read unsynced) where
    abbrev either : Bool → Result Counted DiskPlace
    either b = Ok (if b then held.read else left.before)

    some_left : (sure second : Bool) → unsynced.second ≡ second → ((image : Image) → image_bytes image (first_disk new.journal).history ≡ first_was sure image)
        → Leaves stands (state new.machine) new.journal held.read (if sure then (if second then Some unsynced else None) else Some unsynced)
    some_left false second is first_image = record {
      is_state = left.is_state ∙ sym unsettled.unfound.became;
      before = left.before;
      place = left.place;
      stood = left.stood;
      images = λ one two. pair_was false first_image one two ∙ left.images one two;
      synced = λ image. synced_was false first_image image ∙ left.synced image;
    }
    some_left true true is first_image = record {
      is_state = left.is_state ∙ sym unsettled.unfound.became;
      before = left.before;
      place = left.place;
      stood = left.stood;
      images = λ one two. pair_was true first_image one two ∙ (left.synced two ∙ (ap (λ (b : Bool). either (is_new (if b then two else New))) is ∙ ap (λ (b : Bool). either (is_new (if b then two else one))) (sym is)));
      synced = λ image. synced_was true first_image image ∙ left.synced image;
    }
    some_left true false is first_image = λ one two. pair_was true first_image one two ∙ (left.synced two ∙ ap (λ (b : Bool). either (is_new (if b then two else New))) is)

  left_still_at : (unsynced : Option (Unsynced S)) → Leaves stands (state old.machine) old.journal held.read unsynced → Leaves stands (state new.machine) new.journal held.read (unsynced_still still.number unsynced)
  left_still_at None left = none_left (nat_lt 1 still.number) still.first_image left
  left_still_at (Some unsynced) left = some_left unsynced left (nat_lt 1 still.number) unsynced.second refl still.first_image

  abbrev held_still : Held S
  held_still = record {
    state = h.state;
    place = h.place;
    ready = false;
    unsynced = unsynced_still still.number h.unsynced;
    first = (first_disk new.journal).until_fault;
    second = (second_disk new.journal).until_fault;
  }

  state_still : h.state ≡ caught after (state new.machine) new.unsure (has_record new.journal.pending (stored seen_on new.journal))
  state_still =
      held.is_state
      ∙ (ap (λ (s : S). caught after s old.unsure (has_record old.journal.pending (stored seen_on old.journal))) (sym unsettled.unfound.became)
      ∙ (ap (λ (u : Option T). caught after (state new.machine) u (has_record old.journal.pending (stored seen_on old.journal))) (sym unsettled.unfound.unsure)
      ∙ (ap (λ (p : Pending). caught after (state new.machine) new.unsure (has_record p (stored seen_on old.journal))) (sym unsettled.pending)
      ∙ ap (λ (r : Result Counted DiskPlace). caught after (state new.machine) new.unsure (has_record new.journal.pending r)) (sym (unsettled.same tt)))))

  is_held_still : IsHeld state stands after new held_still
  is_held_still = record {
    is_state = state_still;
    is_ready = sym (ap is_ready unsettled.pending ∙ unready);
    read = held.read;
    is_read = unsettled.same tt ∙ held.is_read;
    is_place = held.is_place;
    stood = held.stood;
    left = left_still_at h.unsynced held.left;
    unready = λ unsynced is. refl;
    first = first_armed h.first h.second old.journal new.journal (sync_calls false) stopped.0 stops most few small fed_one fed_two;
    second = second_armed h.first h.second old.journal new.journal (sync_calls false) stopped.0 stops most few small fed_one fed_two;
  }

  unready_held : h.ready ≡ false
  unready_held = held.is_ready ∙ unready

  abbrev after_syncs : List Bool
  after_syncs = four h.place.second ++ seven (not h.place.second)

  is_schedule : disks_of (sync_calls false) ++ after_syncs ≡ schedule h
  is_schedule = ap (λ (b : Bool). syncs b ++ after_syncs) (sym unready_held)

  pub sync_failed : (now : Held S) × IsHeld state stands after new now × HasFaults new.journal (most + 1)
      × (is : SyncFailed h (armed_at now 0)) × HasMade old.journal new.journal (take is.number (schedule h))
  sync_failed =
      let at_most : stopped.0 ≤ 2 = stops.most in
      let place = fault_in h.first h.second old.journal new.journal (sync_calls false) stopped.0 stops after_syncs (schedule h) is_schedule in
      let made = made_as h.first h.second old.journal new.journal (sync_calls false) stopped.0 stops after_syncs (schedule h) is_schedule in (
        held_still,
        is_held_still,
        more_faults h.first h.second old.journal new.journal (sync_calls false) stopped.0 stops most few,
        record {
          unready = unready_held;
          number = still.number;
          least = omega (arith, stops.least, is_number);
          most = omega (arith, at_most, is_number);
          place = place ∙ ap Some is_number;
          became = refl;
        },
        subst (λ (n : ℕ). HasMade old.journal new.journal (take n (schedule h))) is_number made,
      )
