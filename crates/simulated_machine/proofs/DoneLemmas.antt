-- What is held of a machine behind a step that was answered.
use Rattle.std.specs.Prelude.{option_map}
use Rattle.std.proofs.Common.{◌≡◌, ◌∙◌, ℕ, ◌+◌, ◌-◌, ◌≤◌, Bool, true, false, not, if◌then◌else◌, List, ◌++◌, length, drop, map, take, Option, None, Some, IfSome, Ok, ap, arith, refl, sym, subst, length-take, ◌<◌, ◌^◌}
use Rattle.std.proofs.lemmas.List.{take-append-drop}
use Rattle.ps_ports.specs.Causes.{raised}
use Rattle.ps_disks.specs.History.{image_bytes}
use Rattle.ps_disks.specs.Images.{bytes_are_image}
use Rattle.ps_disks.specs.MemoryDisk.{DiskState, told_calls}
use Rattle.ps_disks.specs.Run.{IsArmed, IsSpared, made_since}
use Rattle.ps_disks.specs.declared.disk.DiskCall.{DiskCall}
use Rattle.ps_disks.specs.declared.image.Image.{Image}
use Rattle.host_journal.specs.Pair.{pair_of}
use Rattle.host_journal.specs.State.{EachImage, IsAt, State, first_disk, has_record, is_ready, second_disk, stored}
use Rattle.host_journal.specs.declared.reading.Counted.{Counted}
use Rattle.host_journal.proofs.MomentLemmas.{ours_at}
use Rattle.machine_keep.specs.Calls.{PairCalls, first_calls, second_calls, step_calls}
use Rattle.machine_keep.specs.Course.{Answered, Shortens, is_many_with}
use Rattle.machine_keep.specs.Faulted.{left_now, seen_on}
use Rattle.machine_keep.specs.Kept.{Kept, StandsFor, after_step, caught, is_many}
use Rattle.machine_keep.specs.Stopped.{first_fault}
use Rattle.machine_keep.proofs.LeftLemmas.{is_image}
use Rattle.simulated_machine.specs.Held.{Held, calls_of, failing, four, is_many_at, on_first, on_second, place_after, place_at, schedule, seven, syncs}
use Rattle.simulated_machine.specs.IsHeld.{IsHeld}
use Rattle.simulated_machine.specs.AfterStep.{Done, HasSnapshot, IsBeyond}
use Rattle.simulated_machine.proofs.PlaceLemmas.{IsInOrder, pair_in_order, place_moved}
use Rattle.simulated_machine.proofs.ScheduleLemmas.{beyond_front, by_disks, disks_of_step, first_counted, second_counted}

-- ---- the snapshot that was due
pub many_same : {D : Type 0} (place : State D) (k : Counted) (payload : List ℕ) → IsInOrder k → IsAt place (Ok k) → is_many_with place payload ≡ is_many_at (place_at k) (length payload)
many_same place k payload order at =
    let records : place.end + 5 + length payload - place.start ≡ (k.end - k.start) + 5 + length payload = omega (arith, order.1, at.2, at.3) in
    let snapshot : place.start - 21 ≡ k.start - 21 = omega (arith, at.2) in
    ap (λ (n : ℕ). is_many n (place.start - 21)) records ∙ ap (is_many ((k.end - k.start) + 5 + length payload)) snapshot

no_image : {D S : Type 0} (stands : List (List ℕ) → S → Type 0) (s : S) (off off_now : ℕ) (place : State D) (payload image : Option (List ℕ)) → Shortens stands s off off_now place payload image → payload ≡ None → image ≡ None
no_image stands s off off_now place None image shortened none = shortened.0
no_image stands s off off_now place (Some payload) image shortened none = absurd (cc none)

has_snapshot : {D S : Type 0} (stands : List (List ℕ) → S → Type 0) (s : S) (off off_now : ℕ) (place : State D) (k : Counted) (payload image : Option (List ℕ)) → IsInOrder k → IsAt place (Ok k)
    → Shortens stands s off off_now place payload image → off_now ≡ off → off ≡ 0 → HasSnapshot stands s (place_at k) payload image
has_snapshot stands s off off_now place k None image order at shortened same zero_off = shortened.0
has_snapshot stands s off off_now place k (Some payload) None order at shortened same zero_off = sym (many_same place k payload order at) ∙ by (is_many_with place payload) shortened
  where
    by : (b : Bool) → off_now ≡ (if b then raised off else off) → b ≡ false
    by true put_off = absurd (omega (arith, put_off, same, zero_off))
    by false put_off = refl
has_snapshot stands s off off_now place k (Some payload) (Some image) order at shortened same zero_off = (sym (many_same place k payload order at) ∙ shortened.0, (shortened.1.0, shortened.1.1, subst (λ (n : ℕ). n + 1 < 2 ^ 64) (sym at.1) shortened.1.2))

-- ---- the calls of a step, which are a front of the schedule
abbrev all_calls : Bool → Bool → List Bool
all_calls ready second = syncs ready ++ (four second ++ seven (not second))

of_payload : {A B C : Type 0} (f : A → B) (ready : Bool) (step : Option A) (image : Option C) → calls_of ready (option_map f step) image ≡ calls_of ready step image
of_payload f ready None image = refl
of_payload f ready (Some step) None = refl
of_payload f ready (Some step) (Some image) = refl

within : {A B : Type 0} (ready second : Bool) (step : Option A) (image : Option B) → calls_of ready step image ≤ length (all_calls ready second)
within true second None image = omega arith
within false second None image = omega arith
within true second (Some step) None = omega arith
within false second (Some step) None = omega arith
within true second (Some step) (Some image) = omega arith
within false second (Some step) (Some image) = omega arith

length_of : {T : Type 0} (bytes : T → List ℕ) (step : Option T) → option_map length (option_map bytes step) ≡ option_map (λ t. length (bytes t)) step
length_of bytes None = refl
length_of bytes (Some step) = refl

-- none of the first so many fails
beyond : (first second n : ℕ) (calls : List Bool) → n ≤ length calls → failing first second (take n calls) ≡ None → IsBeyond n (failing first second calls)
beyond first second n calls fits none =
    let size : length (take n calls) ≡ n = omega (arith, length-take n calls, fits) in
    subst (λ (l : List Bool). IsBeyond n (failing first second l)) (take-append-drop n calls)
    (subst (λ (m : ℕ). IsBeyond m (failing first second (take n calls ++ drop n calls))) size (beyond_front first second (take n calls) (drop n calls) none))

-- what is armed then
armed_after : (old new : DiskState) (number made : ℕ) (calls : List DiskCall) → IsArmed old number → IsSpared old new → made_since old new ≡ calls → length calls ≡ made → IsArmed new (number - made)
armed_after old new number made calls armed spared is size =
    subst (λ (n : ℕ). IsArmed new (number - n)) (ap length is ∙ size) (subst (λ (n : ℕ). IsArmed new (n - length (made_since old new))) armed.armed spared.left)

-- no step is unsure
none_unsure : {S T : Type 0} (after : S → T → S) (s : S) (o : Option T) (stood : Bool) → o ≡ None → caught after s o stood ≡ s
none_unsure after s None stood is = refl
none_unsure after s (Some step) stood is = absurd (cc is)

module _ {M S C R T : Type 0} (state : M → S) (stands : List (List ℕ) → S → Type 0) (bytes : T → List ℕ) (answers : S → C → R → Option T → Type 0) (follows : S → T → Type 0) (after : S → T → S)
    (old new : Kept M DiskState T) (call : C) (reply : R) (h : Held S) (held : IsHeld state stands after old h)
    (answered : Answered (Unit {0}) seen_on told_calls state stands bytes answers follows after old new call reply)
    (ready : is_ready new.journal.pending ≡ true) (sure : new.unsure ≡ None) (durable : EachImage left_now new.journal (StandsFor stands (state new.machine)))
    (is_at : IsAt new.journal (stored seen_on new.journal)) (each : EachImage left_now new.journal (λ pair. pair ≡ stored seen_on new.journal))
    (same_off : new.put_off ≡ old.put_off) (none_off : old.put_off ≡ 0) where
  abbrev payload : Option (List ℕ)
  payload = option_map bytes answered.step

  abbrev calls : PairCalls
  calls = step_calls (is_ready old.journal.pending) answered.place payload answered.image

  -- how many these are
  abbrev made : ℕ
  made = calls_of h.ready answered.step answered.image

  found_at : IsAt answered.place (Ok held.read)
  found_at = subst (IsAt answered.place) held.is_read (answered.found.at tt)

  order : IsInOrder held.read
  order = pair_in_order (seen_on (first_disk old.journal)) (seen_on (second_disk old.journal)) held.read held.is_read

  is_caught : caught after (state old.machine) old.unsure answered.stood ≡ h.state
  is_caught = ap (caught after (state old.machine) old.unsure) (answered.found.stands tt) ∙ sym held.is_state

  became : state new.machine ≡ after_step after h.state answered.step
  became = answered.became ∙ ap (λ (s : S). after_step after s answered.step) is_caught

  none_made : payload ≡ None → answered.image ≡ None
  none_made = no_image stands (state new.machine) old.put_off new.put_off answered.place payload answered.image answered.shortened

  second_same : answered.place.second ≡ h.place.second
  second_same = sym (ap (λ p. p.second) held.is_place ∙ found_at.0)

  fronts : map (λ c. c.0) calls ≡ take made (schedule h)
  fronts =
      disks_of_step (is_ready old.journal.pending) answered.place payload answered.image none_made
      ∙ (ap (λ (b : Bool). take (calls_of (is_ready old.journal.pending) payload answered.image) (all_calls (is_ready old.journal.pending) b)) second_same
      ∙ (ap (λ (b : Bool). take (calls_of b payload answered.image) (all_calls b h.place.second)) (sym held.is_ready)
      ∙ ap (λ (n : ℕ). take n (schedule h)) (of_payload bytes h.ready answered.step answered.image)))

  -- what is read
  abbrev now : Counted
  now = (ours_at new.journal (stored seen_on new.journal) is_at).0

  is_now : stored seen_on new.journal ≡ Ok now
  is_now = (ours_at new.journal (stored seen_on new.journal) is_at).1

  stands_now : StandsFor stands (state new.machine) (stored seen_on new.journal)
  stands_now = durable (seen_on (first_disk new.journal)) (seen_on (second_disk new.journal)) (bytes_are_image (first_disk new.journal).history) (bytes_are_image (second_disk new.journal).history)

  left_so : (one two : Image) → pair_of (image_bytes one (first_disk new.journal).history) (image_bytes two (second_disk new.journal).history) ≡ Ok now
  left_so one two =
      each (image_bytes one (first_disk new.journal).history) (image_bytes two (second_disk new.journal).history) (is_image one (first_disk new.journal).history) (is_image two (second_disk new.journal).history) ∙ is_now

  place_now : place_after h.place (option_map (λ t. length (bytes t)) answered.step) (option_map length answered.image) ≡ place_at now
  place_now =
      ap (λ p. place_after p (option_map (λ t. length (bytes t)) answered.step) (option_map length answered.image)) held.is_place
      ∙ (ap (λ (o : Option ℕ). place_after (place_at held.read) o (option_map length answered.image)) (sym (length_of bytes answered.step))
      ∙ sym (place_moved answered.place new.journal held.read now order found_at (subst (IsAt new.journal) is_now is_at) payload answered.image none_made answered.moved))

  abbrev held_now : Held S
  held_now = record {
    state = after_step after h.state answered.step;
    place = place_after h.place (option_map (λ t. length (bytes t)) answered.step) (option_map length answered.image);
    ready = true;
    unsynced = None;
    first = h.first - on_first (take made (schedule h));
    second = h.second - on_second (take made (schedule h));
  }

  module _ (spared_one : IsSpared (first_disk old.journal) (first_disk new.journal)) (spared_two : IsSpared (second_disk old.journal) (second_disk new.journal))
      (made_one : made_since (first_disk old.journal) (first_disk new.journal) ≡ first_calls calls) (made_two : made_since (second_disk old.journal) (second_disk new.journal) ≡ second_calls calls)
      (none_failed : first_fault h.first h.second calls ≡ None) where
    is_held : IsHeld state stands after new held_now
    is_held = record {
      is_state = sym (none_unsure after (state new.machine) new.unsure (has_record new.journal.pending (stored seen_on new.journal)) sure ∙ became);
      is_ready = sym ready;
      read = now;
      is_read = is_now;
      is_place = place_now;
      stood = subst (stands now.list) became (subst (StandsFor stands (state new.machine)) is_now stands_now);
      left = left_so;
      unready = λ unsynced is. absurd (cc is);
      first = armed_after (first_disk old.journal) (first_disk new.journal) h.first (on_first (take made (schedule h))) (first_calls calls) held.first spared_one made_one (first_counted calls ∙ ap on_first fronts);
      second = armed_after (second_disk old.journal) (second_disk new.journal) h.second (on_second (take made (schedule h))) (second_calls calls) held.second spared_two made_two (second_counted calls ∙ ap on_second fronts);
    }

    is_done : Done stands bytes answers follows after h held_now call reply
    is_done = record {
      step = answered.step;
      answered = subst (λ (s : S). answers s call reply answered.step) is_caught answered.answered;
      may = subst (λ (s : S). IfSome answered.step (λ t. follows s t)) is_caught answered.may;
      snapshot = answered.image;
      due =
          subst (λ p. HasSnapshot stands (after_step after h.state answered.step) p payload answered.image) (sym held.is_place)
          (subst (λ (s : S). HasSnapshot stands s (place_at held.read) payload answered.image) became
          (has_snapshot stands (state new.machine) old.put_off new.put_off answered.place held.read payload answered.image order found_at answered.shortened same_off none_off));
      clear =
          beyond h.first h.second made (schedule h) (within h.ready h.place.second answered.step answered.image)
          (sym (ap (failing h.first h.second) fronts) ∙ (sym (by_disks h.first h.second calls) ∙ none_failed));
      became = refl;
    }

    pub done_step : (now_held : Held S) × IsHeld state stands after new now_held × Done stands bytes answers follows after h now_held call reply
    done_step = (held_now, is_held, is_done)
