-- What a step that met a fault as it was kept makes of what is held.
use Rattle.std.specs.Prelude.{nat_le, nat_lt, option_map}
use Rattle.std.specs.Int.{to_be_bytes}
use Rattle.std.proofs.Common.{◌≡◌, ◌∙◌, ◌⊎◌, inl, inr, ℕ, zero, suc, ◌+◌, ◌-◌, ◌^◌, ◌<◌, ◌≤◌, Bool, true, false, not, ◌||◌, if◌then◌else◌, List, [], ◌∷◌, ◌++◌, length, take, Option, None, Some, IfSome, Result, Ok, ap, arith, refl, sym, subst, length-append, w32, w64}
use Rattle.std.proofs.lemmas.Bool.{cases_lt}
use Rattle.std.proofs.lemmas.Bool.Decides.{nat_tests}
use Rattle.ps_disks.specs.History.{image_bytes}
use Rattle.ps_disks.specs.MemoryDisk.{DiskState, ends_too_far}
use Rattle.ps_disks.specs.Run.{IsArmed}
use Rattle.ps_disks.specs.declared.image.Image.{Image}
use Rattle.ps_disks.specs.declared.image.Image.TheVariants.{New}
use Rattle.host_journal.specs.Crash.{is_new}
use Rattle.host_journal.specs.Pair.{gates_at, pair_of}
use Rattle.host_journal.specs.State.{IsAt, State, closing, first_disk, has_record, image_bytes as bytes_of_image, is_ready, second_disk, snapshot_of, stored, which}
use Rattle.host_journal.specs.declared.reading.Counted.{Counted}
use Rattle.host_journal.specs.declared.reading.DiskPlace.{DiskPlace}
use Rattle.machine_keep.specs.Calls.{PairCalls, image_calls, kept_calls, record_calls, step_calls, sync_calls}
use Rattle.machine_keep.specs.Course.{IsDue, IsSnapshotOf, is_many_with}
use Rattle.machine_keep.specs.FaultLeft.{IsWithinReach, LeftAgain, left_of_fault, unsynced_image}
use Rattle.machine_keep.specs.Faulted.{BrokenInMemory, Faulted, seen_on, state_before, wanted_calls}
use Rattle.machine_keep.specs.Kept.{Kept, StandsFor, after_step, caught, is_many}
use Rattle.machine_keep.specs.Stopped.{StopsAt, are_too_far}
use Rattle.simulated_machine.specs.Held.{Held, Unsynced, Place, armed_at, four, is_many_at, place_at, schedule, seven, syncs, with_record, with_snapshot}
use Rattle.simulated_machine.specs.IsHeld.{HasFaults, HasMade, IsHeld}
use Rattle.simulated_machine.specs.AfterStep.{Broken, bytes_in, unsynced_broken, place_broken, state_broken}
use Rattle.simulated_machine.proofs.PlaceLemmas.{pair_in_order, same_place}
use Rattle.simulated_machine.proofs.MadeLemmas.{disks_of, fault_in, first_armed, made_as, more_faults, near_syncs, same_number, second_armed}

-- ---- no call of a step ends too far
ends_near : (n : ℕ) → n < 2 ^ 64 → nat_le (2 ^ 64) n ≡ false
ends_near n few = grind (arith, nat_tests)

abbrev end_of : ℕ → List ℕ → ℕ
end_of at written = at + length written

-- a write that ends in reach, and others behind it
write_near : (at : ℕ) (written : List ℕ) (rest : Bool) → end_of at written < 2 ^ 64 → rest ≡ false → (nat_le (2 ^ 64) (end_of at written) || rest) ≡ false
write_near at written rest few none = by (nat_le (2 ^ 64) (end_of at written)) (ends_near (end_of at written) few)
  where
    by : (b : Bool) → b ≡ false → (b || rest) ≡ false
    by false is = none
    by true is = absurd (cc is)

near_both : (one two : PairCalls) → are_too_far one ≡ false → are_too_far two ≡ false → are_too_far (one ++ two) ≡ false
near_both [] two first second = second
near_both (c ∷ one) two first second = by (ends_too_far c.1) first (λ rest. near_both one two rest second)
  where
    by : (b : Bool) → (b || are_too_far one) ≡ false → (are_too_far one ≡ false → are_too_far (one ++ two) ≡ false) → (b || are_too_far (one ++ two)) ≡ false
    by false first rest = rest first
    by true first rest = absurd (cc first)

near_record : (place : State DiskState) (payload : Option (List ℕ)) → place.end ≤ 2 ^ 63 → IfSome payload (λ p. length p ≤ 8_388_608) → are_too_far (record_calls place payload) ≡ false
near_record place None near short = refl
near_record place (Some payload) near short =
    let size = to_be_bytes w32 (length payload) in
    let four_bytes : length size ≡ 4 = refl in
    write_near (place.end + 1) (size ++ (payload ++ 0 ∷ [])) _ (omega (arith, near, short, length-append payload (0 ∷ []), length-append size (payload ++ 0 ∷ []), four_bytes))
    (write_near place.end (1 ∷ []) _ (omega (arith, near)) refl)

closing_short : (shut : Bool) → length (closing shut) ≤ 1
closing_short true = omega arith
closing_short false = omega arith

near_image : (place : State DiskState) (image : Option (List ℕ)) → IfSome image (λ i. (length i < 2 ^ 32) × (place.generation + 1 < 2 ^ 64)) → are_too_far (image_calls place image) ≡ false
near_image place None short = refl
near_image place (Some image) short =
    let generation = to_be_bytes w64 (place.generation + 1) in
    let size = to_be_bytes w32 (length image) in
    let eight_bytes : length generation ≡ 8 = refl in
    let four_bytes : length size ≡ 4 = refl in
    let all = length-append generation (size ++ (image ++ 0 ∷ [])) in
    write_near 8 (closing place.shut) _ (omega (arith, closing_short place.shut))
    (write_near 9 (bytes_of_image (place.generation + 1) image) _ (omega (arith, short.0, length-append image (0 ∷ []), length-append size (image ++ 0 ∷ []), all, eight_bytes, four_bytes)) refl)

near_step : (ready : Bool) (place : State DiskState) (payload image : Option (List ℕ)) → place.end ≤ 2 ^ 63 → IfSome payload (λ p. length p ≤ 8_388_608)
    → IfSome image (λ i. (length i < 2 ^ 32) × (place.generation + 1 < 2 ^ 64)) → are_too_far (step_calls ready place payload image) ≡ false
near_step ready place payload image near short reach =
    near_both (sync_calls ready) (kept_calls place payload image) (near_syncs ready) (near_both (record_calls place payload) (image_calls place image) (near_record place payload near short) (near_image place image reach))

-- ---- where the step was made
reach_of : {S : Type 0} (stands : List (List ℕ) → S → Type 0) (s : S) (place : State DiskState) (payload image : Option (List ℕ)) → IsDue stands s place payload image
    → IfSome image (λ i. (length i < 2 ^ 32) × (place.generation + 1 < 2 ^ 64))
reach_of stands s place payload None due = tt
reach_of stands s place None (Some image) due = absurd due
reach_of stands s place (Some payload) (Some image) due = (due.1.1, due.1.2)

mapped_short : {T : Type 0} (bytes : T → List ℕ) (step : Option T) → IfSome step (λ t. length (bytes t) ≤ 8_388_608) → IfSome (option_map bytes step) (λ p. length p ≤ 8_388_608)
mapped_short bytes None short = tt
mapped_short bytes (Some step) short = short

-- the calls of a step with a record are a front of the schedule
in_schedule : (ready : Bool) (place : State DiskState) (payload : List ℕ) (image : Option (List ℕ))
    → (back : List Bool) × (disks_of (step_calls ready place (Some payload) image) ++ back ≡ syncs ready ++ (four place.second ++ seven (not place.second)))
in_schedule true place payload None = (seven (not place.second), refl)
in_schedule false place payload None = (seven (not place.second), refl)
in_schedule true place payload (Some image) = ([], refl)
in_schedule false place payload (Some image) = ([], refl)

as_many : (ready : Bool) → length (sync_calls ready) ≡ length (syncs ready)
as_many true = refl
as_many false = refl

other_image : (second : Bool) (one two : Image) → (if second then one else two) ≡ (if not second then two else one)
other_image true one two = refl
other_image false one two = refl

-- ---- what is held behind each of its calls
module _ {M S T : Type 0} (state : M → S) (stands : List (List ℕ) → S → Type 0) (after : S → T → S) (new : Kept M DiskState T) (read : Counted) (place : State DiskState) (before : S) (step : T) (payload : List ℕ) where
  abbrev later : S
  later = after before step

  abbrev with_it : Counted
  with_it = record { second = read.second; generation = read.generation; start = read.start; end = read.end + 5 + length payload; list = read.list ++ payload ∷ [] }

  abbrev with_image : List ℕ → Counted
  with_image image = record { second = not place.second; generation = place.generation + 1; start = gates_at image; end = gates_at image; list = image ∷ [] }

  abbrev now : Result Counted DiskPlace
  now = stored seen_on new.journal

  abbrev found : Bool
  found = has_record new.journal.pending now

  abbrev images_now : Image → Image → Result Counted DiskPlace
  images_now one two = pair_of (image_bytes one (first_disk new.journal).history) (image_bytes two (second_disk new.journal).history)

  abbrev synced_now : Image → Result Counted DiskPlace
  synced_now image = pair_of (seen_on (first_disk new.journal)) (image_bytes image (second_disk new.journal).history)

  abbrev held_as : S → Place → Option (Unsynced S) → Held S
  held_as s p unsynced = record { state = s; place = p; ready = false; unsynced = unsynced; first = (first_disk new.journal).until_fault; second = (second_disk new.journal).until_fault }

  -- what the laws say of the call of this number
  record Left (number : ℕ) (image : Option (List ℕ)) : Type 0 where
    least : 1 ≤ number
    most : number ≤ length (kept_calls place (Some payload) image)
    unsure : number ≤ 4 → (state new.machine ≡ before) × (new.unsure ≡ Some step) × (found ≡ nat_lt 3 number)
    taken : 4 < number → (state new.machine ≡ later) × (new.unsure ≡ None)
    reads_as : number ≤ 10 → now ≡ which payload (nat_lt 3 number) (Ok read)
    turned : 10 < number → IfSome image (λ i. (now ≡ snapshot_of i place) × stands (i ∷ []) later)
    images : (one two : Image) → images_now one two ≡ left_of_fault (Ok read) place payload image number (unsynced_image number read.second one two)
    synced : (last : Image) → synced_now last ≡ left_of_fault (Ok read) place payload image number (unsynced_image number read.second New last)

  module _ (is_unready : is_ready new.journal.pending ≡ false) (first_is : IsArmed (first_disk new.journal) (first_disk new.journal).until_fault) (second_is : IsArmed (second_disk new.journal) (second_disk new.journal).until_fault)
      (stood : stands read.list before) (stood_later : stands (read.list ++ payload ∷ []) later) (same_disk : read.second ≡ place.second) (ordered : read.start ≤ read.end) (same_generation : read.generation ≡ place.generation) where
    unsure_state : (b : Bool) → (state new.machine ≡ before) × (new.unsure ≡ Some step) × (found ≡ b) → (if b then later else before) ≡ caught after (state new.machine) new.unsure found
    unsure_state b left =
        sym (ap (λ (s : S). caught after s new.unsure found) left.0 ∙ (ap (λ (u : Option T). caught after before u found) left.1 ∙ ap (caught after before (Some step)) left.2))

    taken_state : (state new.machine ≡ later) × (new.unsure ≡ None) → later ≡ caught after (state new.machine) new.unsure found
    taken_state left = sym (ap (λ (s : S). caught after s new.unsure found) left.0 ∙ ap (λ (u : Option T). caught after later u found) left.1)

    grown : with_record (place_at read) (length payload) ≡ place_at with_it
    grown = same_place (with_record (place_at read) (length payload)) (place_at with_it) refl refl refl (omega (arith, ordered))

    turned_place : (image : List ℕ) → with_snapshot (place_at read) (length image) ≡ place_at (with_image image)
    turned_place image = same_place (with_snapshot (place_at read) (length image)) (place_at (with_image image)) (ap not same_disk) (ap (λ (n : ℕ). n + 1) same_generation) (omega arith) (omega arith)

    which_ok : (b : Bool) → which payload b (Ok read) ≡ Ok (if b then with_it else read)
    which_ok true = refl
    which_ok false = refl

    turned_ok : (image : List ℕ) (b : Bool) → (if b then snapshot_of image place else Ok with_it) ≡ Ok (if b then with_image image else with_it)
    turned_ok image true = refl
    turned_ok image false = refl

    stands_in : (s : S) (k : Counted) → now ≡ Ok k → StandsFor stands s now → stands k.list s
    stands_in s k is for = subst (StandsFor stands s) is for

    early : (state new.machine ≡ before) × (new.unsure ≡ Some step) × (found ≡ false) → now ≡ Ok read → ((one two : Image) → images_now one two ≡ Ok read)
        → IsHeld state stands after new (held_as before (place_at read) None)
    early left is images = record {
      is_state = unsure_state false left;
      is_ready = sym is_unready;
      read = read;
      is_read = is;
      is_place = refl;
      stood = stood;
      left = images;
      unready = λ unsynced some. refl;
      first = first_is;
      second = second_is;
    }

    fourth : (state new.machine ≡ before) × (new.unsure ≡ Some step) × (found ≡ true) → now ≡ Ok with_it
        → ((one two : Image) → images_now one two ≡ which payload (is_new (if read.second then two else one)) (Ok read)) → ((image : Image) → synced_now image ≡ which payload (is_new (if read.second then image else New)) (Ok read))
        → IsHeld state stands after new (held_as later (with_record (place_at read) (length payload)) (Some (record { second = read.second; state = before; place = place_at read })))
    fourth left is images synced = record {
      is_state = unsure_state true left;
      is_ready = sym is_unready;
      read = with_it;
      is_read = is;
      is_place = grown;
      stood = stood_later;
      left = record {
        is_state = sym left.0;
        before = read;
        place = refl;
        stood = stood;
        images = λ one two. images one two ∙ which_ok (is_new (if read.second then two else one));
        synced = λ image. synced image ∙ which_ok (is_new (if read.second then image else New));
      };
      unready = λ unsynced some. refl;
      first = first_is;
      second = second_is;
    }

    late : (state new.machine ≡ later) × (new.unsure ≡ None) → now ≡ Ok with_it → ((one two : Image) → images_now one two ≡ Ok with_it)
        → IsHeld state stands after new (held_as later (with_record (place_at read) (length payload)) None)
    late left is images = record {
      is_state = taken_state left;
      is_ready = sym is_unready;
      read = with_it;
      is_read = is;
      is_place = grown;
      stood = stood_later;
      left = images;
      unready = λ unsynced some. refl;
      first = first_is;
      second = second_is;
    }

    eleventh : (image : List ℕ) → (state new.machine ≡ later) × (new.unsure ≡ None) → now ≡ snapshot_of image place → stands (image ∷ []) later
        → ((one two : Image) → images_now one two ≡ (if is_new (if read.second then one else two) then snapshot_of image place else Ok with_it))
        → ((last : Image) → synced_now last ≡ (if is_new (if read.second then New else last) then snapshot_of image place else Ok with_it))
        → IsHeld state stands after new (held_as later (with_snapshot (place_at read) (length image)) (Some (record { second = not read.second; state = later; place = with_record (place_at read) (length payload) })))
    eleventh image left is alone images synced = record {
      is_state = taken_state left;
      is_ready = sym is_unready;
      read = with_image image;
      is_read = is;
      is_place = turned_place image;
      stood = alone;
      left = record {
        is_state = sym left.0;
        before = with_it;
        place = grown;
        stood = stood_later;
        images = λ one two. images one two ∙ (turned_ok image (is_new (if read.second then one else two)) ∙ ap (λ (i : Image). Ok (if is_new i then with_image image else with_it)) (other_image read.second one two));
        synced = λ last. synced last ∙ (turned_ok image (is_new (if read.second then New else last)) ∙ ap (λ (i : Image). Ok (if is_new i then with_image image else with_it)) (other_image read.second New last));
      };
      unready = λ unsynced some. refl;
      first = first_is;
      second = second_is;
    }

    abbrev held_at : ℕ → Option (List ℕ) → Held S
    held_at number image = held_as (state_broken number before later) (place_broken number (place_at read) (length payload) (bytes_in image)) (unsynced_broken number (place_at read) before later (length payload))

    in_record : (number : ℕ) (image : Option (List ℕ)) → number ≤ 4 → Left number image → IsHeld state stands after new (held_at number image)
    in_record zero image few left = absurd (omega (arith, left.least))
    in_record (suc zero) None few left = early (left.unsure few) (left.reads_as (omega arith)) left.images
    in_record (suc zero) (Some image) few left = early (left.unsure few) (left.reads_as (omega arith)) left.images
    in_record (suc (suc zero)) None few left = early (left.unsure few) (left.reads_as (omega arith)) left.images
    in_record (suc (suc zero)) (Some image) few left = early (left.unsure few) (left.reads_as (omega arith)) left.images
    in_record (suc (suc (suc zero))) None few left = early (left.unsure few) (left.reads_as (omega arith)) left.images
    in_record (suc (suc (suc zero))) (Some image) few left = early (left.unsure few) (left.reads_as (omega arith)) left.images
    in_record (suc (suc (suc (suc zero)))) None few left = fourth (left.unsure few) (left.reads_as (omega arith)) left.images left.synced
    in_record (suc (suc (suc (suc zero)))) (Some image) few left = fourth (left.unsure few) (left.reads_as (omega arith)) left.images left.synced
    in_record (suc (suc (suc (suc (suc number))))) image few left = absurd (omega (arith, few))

    -- the fifth and those behind it
    in_image : (behind : ℕ) (image : List ℕ) → behind < 7 → Left (5 + behind) (Some image) → IsHeld state stands after new (held_at (5 + behind) (Some image))
    in_image zero image few left = late (left.taken (omega arith)) (left.reads_as (omega arith)) left.images
    in_image (suc zero) image few left = late (left.taken (omega arith)) (left.reads_as (omega arith)) left.images
    in_image (suc (suc zero)) image few left = late (left.taken (omega arith)) (left.reads_as (omega arith)) left.images
    in_image (suc (suc (suc zero))) image few left = late (left.taken (omega arith)) (left.reads_as (omega arith)) left.images
    in_image (suc (suc (suc (suc zero)))) image few left = late (left.taken (omega arith)) (left.reads_as (omega arith)) left.images
    in_image (suc (suc (suc (suc (suc zero))))) image few left = late (left.taken (omega arith)) (left.reads_as (omega arith)) left.images
    in_image (suc (suc (suc (suc (suc (suc zero)))))) image few left = let last = left.turned (omega arith) in eleventh image (left.taken (omega arith)) last.0 last.1 left.images left.synced
    in_image (suc (suc (suc (suc (suc (suc (suc behind))))))) image few left = absurd (omega (arith, few))

    held_left : (number : ℕ) (image : Option (List ℕ)) → Left number image → (number < 5) ⊎ (5 ≤ number) → IsHeld state stands after new (held_at number image)
    held_left number image left (inl few) = in_record number image (omega (arith, few)) left
    held_left number None left (inr many) = let four_calls : number ≤ 4 = left.most in absurd (omega (arith, four_calls, many))
    held_left number (Some image) left (inr many) =
        let all : number ≤ 11 = left.most in
        let is : 5 + (number - 5) ≡ number = omega (arith, many) in
        subst (λ (k : ℕ). IsHeld state stands after new (held_at k (Some image))) is (in_image (number - 5) image (omega (arith, all, many)) (subst (λ (k : ℕ). Left k (Some image)) (sym is) left))

-- ---- a step that met a fault as it was kept
module _ {M S C R T : Type 0} (state : M → S) (stands : List (List ℕ) → S → Type 0) (bytes : T → List ℕ) (answers : S → C → R → Option T → Type 0) (follows : S → T → Type 0) (after : S → T → S)
    (more : (list : List (List ℕ)) (s : S) (step : T) → stands list s → follows s step → stands (list ++ bytes step ∷ []) (after s step))
    (old new : Kept M DiskState T) (call : C) (h : Held S) (held : IsHeld state stands after old h) (within : h.place.snapshot + h.place.records ≤ 2 ^ 62)
    (broken : BrokenInMemory state stands bytes answers follows after old new call) where
  abbrev wanted : PairCalls
  wanted = wanted_calls state stands bytes answers follows after old new call broken

  abbrev kept_place : State DiskState
  kept_place = broken.unkept.place

  abbrev image_of : Option (List ℕ)
  image_of = broken.unkept.image

  abbrev before_it : S
  before_it = state_before state stands bytes answers follows after old new call broken

  is_at : IsAt kept_place (Ok held.read)
  is_at = subst (IsAt kept_place) held.is_read (broken.unkept.found.at tt)

  pub near_wanted : are_too_far wanted ≡ false
  near_wanted =
      let snapshot : h.place.snapshot ≡ held.read.start - 21 = ap (λ (p : Place). p.snapshot) held.is_place in
      let records : h.place.records ≡ held.read.end - held.read.start = ap (λ (p : Place). p.records) held.is_place in
      near_step (is_ready old.journal.pending) kept_place (option_map bytes broken.unkept.step) image_of (omega (arith, within, snapshot, records, is_at.3))
      (mapped_short bytes broken.unkept.step broken.short)
      (reach_of stands (after_step after before_it broken.unkept.step) kept_place (option_map bytes broken.unkept.step) image_of broken.unkept.due)

  pub in_reach : (number : ℕ) → IsWithinReach number kept_place.generation image_of
  in_reach number late = reach_of stands (after_step after before_it broken.unkept.step) kept_place (option_map bytes broken.unkept.step) image_of broken.unkept.due

  module _ (most : ℕ) (few : HasFaults old.journal most) (small : most + 2 < 2 ^ 64) (is_unready : is_ready new.journal.pending ≡ false)
      (fed_one : (first_disk new.journal).starved ≡ false) (fed_two : (second_disk new.journal).starved ≡ false)
      (faulted : Faulted state stands bytes answers follows after h.first h.second old new call broken)
      (again : LeftAgain state stands bytes answers follows after h.first h.second old new call broken faulted)
      (stopped : (n : ℕ) × StopsAt h.first h.second old.journal new.journal wanted n) where
    abbrev later_now : S
    later_now = after before_it faulted.step

    abbrev payload_now : List ℕ
    payload_now = bytes faulted.step

    abbrev ready_now : Bool
    ready_now = is_ready old.journal.pending

    is_before : h.state ≡ before_it
    is_before = held.is_state ∙ ap (caught after (state old.machine) old.unsure) (sym (broken.unkept.found.stands tt))

    ordered_now : held.read.start ≤ held.read.end
    ordered_now = (pair_in_order (seen_on (first_disk old.journal)) (seen_on (second_disk old.journal)) held.read held.is_read).1

    is_wanted : wanted ≡ step_calls ready_now kept_place (Some payload_now) image_of
    is_wanted = ap (λ (o : Option T). step_calls ready_now kept_place (option_map bytes o) image_of) faulted.is_step

    is_stop : stopped.0 ≡ length (sync_calls ready_now) + faulted.number
    is_stop = same_number stopped.0 (length (sync_calls ready_now) + faulted.number) (sym stopped.1.place ∙ faulted.place)

    most_made : faulted.number ≤ length (kept_calls kept_place (Some payload_now) image_of)
    most_made =
        let all : stopped.0 ≤ length (step_calls ready_now kept_place (Some payload_now) image_of) = subst (λ (l : PairCalls). stopped.0 ≤ length l) is_wanted stopped.1.most in
        omega (arith, all, is_stop, length-append (sync_calls ready_now) (kept_calls kept_place (Some payload_now) image_of))

    is_due : IsDue stands later_now kept_place (Some payload_now) image_of
    is_due = subst (λ (o : Option T). IsDue stands (after_step after before_it o) kept_place (option_map bytes o) image_of) faulted.is_step broken.unkept.due

    may_follow : follows before_it faulted.step
    may_follow = subst (λ (o : Option T). IfSome o (λ t. follows before_it t)) faulted.is_step broken.unkept.may

    stood_before : stands held.read.list before_it
    stood_before = subst (StandsFor stands before_it) held.is_read (broken.stood tt)

    -- what is left, by what was read
    abbrev left_so : Image → Result Counted DiskPlace
    left_so image = left_of_fault (Ok held.read) kept_place payload_now image_of faulted.number image

    same_left : (one two : Image) → left_of_fault (stored seen_on old.journal) kept_place payload_now image_of faulted.number (unsynced_image faulted.number kept_place.second one two)
        ≡ left_so (unsynced_image faulted.number held.read.second one two)
    same_left one two =
        ap (λ (r : Result Counted DiskPlace). left_of_fault r kept_place payload_now image_of faulted.number (unsynced_image faulted.number kept_place.second one two)) held.is_read
        ∙ ap (λ (b : Bool). left_so (unsynced_image faulted.number b one two)) (sym is_at.0)

    turned_to : (o : Option (List ℕ)) → image_of ≡ o → IsDue stands later_now kept_place (Some payload_now) o → 10 < faulted.number
        → IfSome o (λ i. (stored seen_on new.journal ≡ snapshot_of i kept_place) × stands (i ∷ []) later_now)
    turned_to None is due far = tt
    turned_to (Some image) is due far = (faulted.turned far image is due.1.1 due.1.2, due.1.0)

    left_is : Left state stands after new held.read kept_place before_it faulted.step payload_now faulted.number image_of
    left_is = record {
      least = faulted.least;
      most = most_made;
      unsure = faulted.unsure;
      taken = faulted.taken;
      reads_as = λ near. faulted.reads_as near ∙ ap (which payload_now (nat_lt 3 faulted.number)) held.is_read;
      turned = turned_to image_of refl is_due;
      images = λ one two. again.images one two ∙ same_left one two;
      synced = λ image. again.synced image ∙ same_left New image;
    }

    abbrev held_broken : Place → S → Held S
    held_broken p s = record {
      state = state_broken faulted.number s (after s faulted.step);
      place = place_broken faulted.number p (length payload_now) (bytes_in image_of);
      ready = false;
      unsynced = unsynced_broken faulted.number p s (after s faulted.step) (length payload_now);
      first = (first_disk new.journal).until_fault;
      second = (second_disk new.journal).until_fault;
    }

    is_held_at : IsHeld state stands after new (held_broken (place_at held.read) before_it)
    is_held_at = held_left state stands after new held.read kept_place before_it faulted.step payload_now is_unready
        (first_armed h.first h.second old.journal new.journal wanted stopped.0 stopped.1 most few small fed_one fed_two)
        (second_armed h.first h.second old.journal new.journal wanted stopped.0 stopped.1 most few small fed_one fed_two)
        stood_before (more held.read.list before_it faulted.step stood_before may_follow) is_at.0 ordered_now is_at.1 faulted.number image_of left_is (cases_lt faulted.number 5)

    is_held_broken : IsHeld state stands after new (held_broken h.place h.state)
    is_held_broken =
        subst (λ (p : Place). IsHeld state stands after new (held_broken p h.state)) (sym held.is_place)
        (subst (λ (s : S). IsHeld state stands after new (held_broken (place_at held.read) s)) (sym is_before) is_held_at)

    many_so : is_many_with kept_place payload_now ≡ is_many_at h.place (length payload_now)
    many_so =
        let snapshot : h.place.snapshot ≡ held.read.start - 21 = ap (λ (p : Place). p.snapshot) held.is_place in
        let records : h.place.records ≡ held.read.end - held.read.start = ap (λ (p : Place). p.records) held.is_place in
        let all : kept_place.end + 5 + length payload_now - kept_place.start ≡ h.place.records + 5 + length payload_now = omega (arith, records, is_at.2, is_at.3, ordered_now) in
        let alone : kept_place.start - 21 ≡ h.place.snapshot = omega (arith, snapshot, is_at.2) in
        ap (λ (k : ℕ). is_many k (kept_place.start - 21)) all ∙ ap (is_many (h.place.records + 5 + length payload_now)) alone

    due_so : (o : Option (List ℕ)) → faulted.number ≤ length (kept_calls kept_place (Some payload_now) o) → IsDue stands later_now kept_place (Some payload_now) o → 4 < faulted.number
        → (is_many_at h.place (length payload_now) ≡ true) × ((image : List ℕ) × (o ≡ Some image) × IsSnapshotOf stands (after h.state faulted.step) h.place.generation image)
    due_so None all due behind = let four_calls : faulted.number ≤ 4 = all in absurd (omega (arith, four_calls, behind))
    due_so (Some image) all due behind =
        (sym many_so ∙ due.0, (image, refl, (subst (λ (s : S). stands (image ∷ []) (after s faulted.step)) (sym is_before) due.1.0, due.1.1, subst (λ (n : ℕ). n + 1 < 2 ^ 64) (sym is_at.1 ∙ sym (ap (λ (p : Place). p.generation) held.is_place)) due.1.2)))

    most_calls : (o : Option (List ℕ)) → length (kept_calls kept_place (Some payload_now) o) ≤ 11
    most_calls None = omega arith
    most_calls (Some image) = omega arith

    abbrev scheduled : List Bool
    scheduled = syncs ready_now ++ (four kept_place.second ++ seven (not kept_place.second))

    is_scheduled : scheduled ≡ schedule h
    is_scheduled =
        ap (λ (b : Bool). syncs b ++ (four kept_place.second ++ seven (not kept_place.second))) (sym held.is_ready)
        ∙ ap (λ (b : Bool). syncs h.ready ++ (four b ++ seven (not b))) (sym is_at.0 ∙ sym (ap (λ (p : Place). p.second) held.is_place))

    in_all : (back : List Bool) × (disks_of wanted ++ back ≡ schedule h)
    in_all =
        let laid = in_schedule ready_now kept_place payload_now image_of in
        (laid.0, ap (λ (l : PairCalls). disks_of l ++ laid.0) is_wanted ∙ (laid.1 ∙ is_scheduled))

    is_number_of : stopped.0 ≡ length (syncs h.ready) + faulted.number
    is_number_of = is_stop ∙ (ap (λ (k : ℕ). k + faulted.number) (as_many ready_now) ∙ ap (λ (b : Bool). length (syncs b) + faulted.number) (sym held.is_ready))

    answered_so : answers h.state call broken.unkept.reply (Some faulted.step)
    answered_so =
        subst (λ (s : S). answers s call broken.unkept.reply (Some faulted.step)) (sym is_before)
        (subst (answers before_it call broken.unkept.reply) faulted.is_step broken.unkept.answered)

    pub broken_so : (now : Held S) × IsHeld state stands after new now × HasFaults new.journal (most + 1)
        × (is : Broken stands bytes answers follows after h (armed_at now 0) call) × HasMade old.journal new.journal (take (length (syncs h.ready) + is.number) (schedule h))
    broken_so =
        let place = fault_in h.first h.second old.journal new.journal wanted stopped.0 stopped.1 in_all.0 (schedule h) in_all.1 in
        let made = made_as h.first h.second old.journal new.journal wanted stopped.0 stopped.1 in_all.0 (schedule h) in_all.1 in (
          held_broken h.place h.state,
          is_held_broken,
          more_faults h.first h.second old.journal new.journal wanted stopped.0 stopped.1 most few,
          record {
            reply = broken.unkept.reply;
            step = faulted.step;
            answered = answered_so;
            may = subst (λ (s : S). follows s faulted.step) (sym is_before) may_follow;
            short = subst (λ (o : Option T). IfSome o (λ t. length (bytes t) ≤ 8_388_608)) faulted.is_step broken.short;
            number = faulted.number;
            least = faulted.least;
            most = omega (arith, most_made, most_calls image_of);
            place = place ∙ ap Some is_number_of;
            snapshot = image_of;
            due = due_so image_of most_made is_due;
            became = refl;
          },
          subst (λ (n : ℕ). HasMade old.journal new.journal (take n (schedule h))) is_number_of made,
        )
