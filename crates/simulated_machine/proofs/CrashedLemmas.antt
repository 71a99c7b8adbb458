-- What a crash leaves of what is held.
use Rattle.std.specs.Prelude.{IfOk, Result, nat_lt, option_map}
use Rattle.std.proofs.Common.{◌≡◌, ◌∙◌, ℕ, ◌+◌, ◌-◌, ◌&&◌, Bool, true, false, not, if◌then◌else◌, List, [], ◌∷◌, ◌++◌, length, Option, None, Some, Err, Ok, ap, arith, refl, subst, sym}
use Rattle.ps_disks.specs.History.{bytes_now, image_bytes}
use Rattle.ps_disks.specs.Images.{bytes_stand}
use Rattle.ps_disks.specs.MemoryDisk.{DiskState}
use Rattle.ps_disks.specs.declared.image.Image.{Image}
use Rattle.ps_disks.specs.declared.image.Image.TheVariants.{New}
use Rattle.host_journal.specs.Crash.{is_new, opens_head}
use Rattle.host_journal.specs.Pair.{pair_of}
use Rattle.host_journal.specs.State.{IsAt, State, first_disk, has_record, second_disk, snapshot_of, stored, which}
use Rattle.host_journal.specs.declared.reading.Counted.{Counted}
use Rattle.host_journal.specs.declared.reading.DiskPlace.{DiskPlace}
use Rattle.machine_keep.specs.Course.{is_many_with}
use Rattle.machine_keep.specs.Crash.{IsSnapshotBehind, IsSnapshotFor, LeftBehind, LeftExactly, keeps_step, left_of_step}
use Rattle.machine_keep.specs.Faulted.{seen_on}
use Rattle.machine_keep.specs.Kept.{Kept, StandsFor, after_step, caught}
use Rattle.simulated_machine.specs.Crashed.{IsSnapshotDue, StandsAt, Stops, unsynced_in, place_stopped, place_unsynced, state_unsynced}
use Rattle.simulated_machine.specs.Held.{Held, Unsynced, Place, is_many_at, place_at, with_record, with_snapshot}
use Rattle.simulated_machine.specs.IsHeld.{IsHeld, Leaves}
use Rattle.simulated_machine.proofs.DoneLemmas.{many_same}
use Rattle.simulated_machine.proofs.PlaceLemmas.{IsInOrder, pair_in_order, same_place}

pub ok_both : {A E : Type 0} (P Q R : A → Type 0) → ((a : A) → P a → Q a → R a) → (r : Result A E) → IfOk r P → IfOk r Q → IfOk r R
ok_both P Q R f (Ok a) p q = f a p q
ok_both P Q R f (Err e) p q = tt

-- ---- behind the syncs
module _ (place : State DiskState) (read : Counted) (order : IsInOrder read) (at : IsAt place (Ok read)) (is : stored seen_on place ≡ Ok read) (stop : ℕ) (image : Image) where
  abbrev Left : Option (List ℕ) → Option (List ℕ) → Result Counted DiskPlace → Type 0
  Left payload snapshot pair = (left : Counted) × (pair ≡ Ok left) × (place_at left ≡ place_stopped stop image (place_at read) (option_map length payload) (option_map length snapshot))

  abbrev with_it : List ℕ → Counted
  with_it payload = record { second = read.second; generation = read.generation; start = read.start; end = read.end + 5 + length payload; list = read.list ++ payload ∷ [] }

  grown : (payload : List ℕ) → place_at (with_it payload) ≡ with_record (place_at read) (length payload)
  grown payload = same_place (place_at (with_it payload)) (with_record (place_at read) (length payload)) refl refl refl (omega (arith, order.1))

  in_record : (payload : List ℕ) (kept : Bool) → (left : Counted) × (which payload kept (Ok read) ≡ Ok left) × (place_at left ≡ (if kept then with_record (place_at read) (length payload) else place_at read))
  in_record payload true = (with_it payload, refl, grown payload)
  in_record payload false = (read, refl, refl)

  turned : (snapshot : List ℕ) → place_at (record { second = not place.second; generation = place.generation + 1; start = 21 + length snapshot; end = 21 + length snapshot; list = snapshot ∷ [] }) ≡ with_snapshot (place_at read) (length snapshot)
  turned snapshot = same_place _ (with_snapshot (place_at read) (length snapshot)) (ap not (sym at.0)) (ap (λ (n : ℕ). n + 1) (sym at.1)) (omega arith) (omega arith)

  in_snapshot : (payload snapshot : List ℕ) (opened kept : Bool) → (left : Counted) × ((if opened then snapshot_of snapshot place else which payload kept (Ok read)) ≡ Ok left)
      × (place_at left ≡ (if opened then with_snapshot (place_at read) (length snapshot) else (if kept then with_record (place_at read) (length payload) else place_at read)))
  in_snapshot payload snapshot true kept = (record { second = not place.second; generation = place.generation + 1; start = 21 + length snapshot; end = 21 + length snapshot; list = snapshot ∷ [] }, refl, turned snapshot)
  in_snapshot payload snapshot false kept = in_record payload kept

  left_so : (payload snapshot : Option (List ℕ)) → Left payload snapshot (left_of_step seen_on place payload snapshot stop image)
  left_so None snapshot = (read, is, refl)
  left_so (Some payload) None = subst (λ p. Left (Some payload) None (which payload (keeps_step stop image) p)) (sym is) (in_record payload (keeps_step stop image))
  left_so (Some payload) (Some snapshot) =
      subst (λ p. Left (Some payload) (Some snapshot) (if opens_head (stop - 4) image then snapshot_of snapshot place else which payload (keeps_step stop image) p)) (sym is) (in_snapshot payload snapshot (opens_head (stop - 4) image) (keeps_step stop image))

  module _ {S C R T : Type 0} (stands : List (List ℕ) → S → Type 0) (bytes : T → List ℕ) (answers : S → C → R → Option T → Type 0) (follows : S → T → Type 0) (after : S → T → S) (h : Held S) (is_place : h.place ≡ place_at read) (call : C) (pair : Result Counted DiskPlace) where
    due_so : (s : S) (payload snapshot : Option (List ℕ)) → IsSnapshotBehind stands s place payload snapshot → IsSnapshotDue stands s h.place payload snapshot
    due_so s None snapshot due = due
    due_so s (Some payload) snapshot due =
        subst (λ p. IsSnapshotFor stands s p.generation (is_many_at p (length payload)) snapshot) (sym is_place)
        (subst (λ many. IsSnapshotFor stands s read.generation many snapshot) (many_same place read payload order at)
        (subst (λ (n : ℕ). IsSnapshotFor stands s n (is_many_with place payload) snapshot) (sym at.1) due))

    lengths : (o : Option T) → option_map (λ (l : List ℕ). length l) (option_map bytes o) ≡ option_map (λ t. length (bytes t)) o
    lengths None = refl
    lengths (Some t) = refl

    pub stops_so : LeftExactly seen_on stands bytes answers follows after h.state place call stop image pair → Stops stands bytes answers follows after h call stop image pair
    stops_so x =
        let l = left_so (option_map bytes x.step) x.snapshot in
        let kept = x.kept in
        record {
          reply = x.reply;
          step = x.step;
          answered = x.answered;
          may = x.may;
          snapshot = x.snapshot;
          due = λ late. due_so (after_step after h.state x.step) (option_map bytes x.step) x.snapshot (x.due late);
          left = record {
            left = l.0;
            is_left = x.left ∙ l.1;
            is_place = l.2 ∙ (ap (λ p. place_stopped stop image p (option_map length (option_map bytes x.step)) (option_map length x.snapshot)) (sym is_place) ∙ ap (λ o. place_stopped stop image h.place o (option_map length x.snapshot)) (lengths x.step));
            stood = subst (StandsFor stands (if keeps_step stop image then after_step after h.state x.step else h.state)) (x.left ∙ l.1) kept;
          };
        }

-- ---- a machine that is held
module _ {M S C R T : Type 0} (state : M → S) (stands : List (List ℕ) → S → Type 0) (bytes : T → List ℕ) (answers : S → C → R → Option T → Type 0) (follows : S → T → Type 0) (after : S → T → S) (k : Kept M DiskState T) (h : Held S) (held : IsHeld state stands after k h) where
  order_now : IsInOrder held.read
  order_now = pair_in_order (seen_on (first_disk k.journal)) (seen_on (second_disk k.journal)) held.read held.is_read

  pub stops_held : (call : C) (stop : ℕ) (image : Image) (pair : Result Counted DiskPlace) → k.unsure ≡ None → IsAt k.journal (stored seen_on k.journal)
      → LeftExactly seen_on stands bytes answers follows after (state k.machine) k.journal call stop image pair → Stops stands bytes answers follows after h call stop image pair
  stops_held call stop image pair sure at x =
      stops_so k.journal held.read order_now (subst (IsAt k.journal) held.is_read at) held.is_read stop image stands bytes answers follows after h held.is_place call pair
      (subst (λ s. LeftExactly seen_on stands bytes answers follows after s k.journal call stop image pair) (sym (held.is_state ∙ ap (λ u. caught after (state k.machine) u (has_record k.journal.pending (stored seen_on k.journal))) sure)) x)

  pub stops_behind : (call : C) (stop : ℕ) (image : Image) (pair : Result Counted DiskPlace)
      → LeftBehind seen_on stands bytes answers follows after (caught after (state k.machine) k.unsure (has_record k.journal.pending (stored seen_on k.journal))) k.journal call stop image pair → Stops stands bytes answers follows after h call stop image pair
  stops_behind call stop image pair x =
      stops_so x.place held.read order_now (subst (IsAt x.place) held.is_read (x.found.at tt)) (x.same ∙ held.is_read) stop image stands bytes answers follows after h held.is_place call pair
      (subst (λ s. LeftExactly seen_on stands bytes answers follows after s x.place call stop image pair) (sym held.is_state) x.left)

  -- ---- before them
  abbrev both : List ℕ → Image → Result Counted DiskPlace
  both one i = pair_of one (image_bytes i (second_disk k.journal).history)

  at_once : (left : Counted) (s : S) (p : Place) (pair : Result Counted DiskPlace) → pair ≡ Ok left → place_at left ≡ p → stands left.list s → StandsAt stands s p pair
  at_once left s p pair is place stood = record { left = left; is_left = is; is_place = place; stood = stood }

  sync_failed_in : (o : Option (Unsynced S)) → Leaves stands (state k.machine) k.journal held.read o → (stop : ℕ) (image : Image) (second_synced : Bool) → nat_lt 1 stop ≡ second_synced
      → StandsAt stands (state_unsynced h.state o stop image) (place_unsynced h.place o stop image) (both (if second_synced then bytes_now (first_disk k.journal).history else image_bytes image (first_disk k.journal).history) image)
  sync_failed_in None left stop image true is =
      at_once held.read h.state h.place _ (ap (λ l. pair_of l (image_bytes image (second_disk k.journal).history)) (bytes_stand (first_disk k.journal).history) ∙ left New image) (sym held.is_place) held.stood
  sync_failed_in None left stop image false is = at_once held.read h.state h.place _ (left image image) (sym held.is_place) held.stood
  sync_failed_in (Some unsynced) left stop image synced is = by synced unsynced.second is refl
    where
      chosen : (new : Bool) (pair : Result Counted DiskPlace) → pair ≡ Ok (if new then held.read else left.before) → StandsAt stands (if new then h.state else unsynced.state) (if new then h.place else unsynced.place) pair
      chosen true pair is = at_once held.read h.state h.place pair is (sym held.is_place) held.stood
      chosen false pair is = at_once left.before unsynced.state unsynced.place pair is (sym left.place) left.stood

      so : (i j : Image) → i ≡ j → (pair : Result Counted DiskPlace) → pair ≡ Ok (if is_new i then held.read else left.before) → StandsAt stands (if is_new j then h.state else unsynced.state) (if is_new j then h.place else unsynced.place) pair
      so i j same pair is = subst (λ x. StandsAt stands (if is_new x then h.state else unsynced.state) (if is_new x then h.place else unsynced.place) pair) same (chosen (is_new i) pair is)

      in_it : (b c : Bool) → nat_lt 1 stop ≡ b → unsynced.second ≡ c → (if b && not c then New else image) ≡ unsynced_in stop unsynced.second image
      in_it b c one two = ap (λ x. if x && not c then New else image) (sym one) ∙ ap (λ x. if nat_lt 1 stop && not x then New else image) (sym two)

      by : (b c : Bool) → nat_lt 1 stop ≡ b → unsynced.second ≡ c
          → StandsAt stands (if is_new (unsynced_in stop unsynced.second image) then h.state else unsynced.state) (if is_new (unsynced_in stop unsynced.second image) then h.place else unsynced.place)
          (both (if b then bytes_now (first_disk k.journal).history else image_bytes image (first_disk k.journal).history) image)
      by true true one two = so image (unsynced_in stop unsynced.second image) (in_it true true one two) _ (left.synced image ∙ ap (λ x. Ok (if is_new (if x then image else New) then held.read else left.before)) two)
      by true false one two = so New (unsynced_in stop unsynced.second image) (in_it true false one two) _ (left.synced image ∙ ap (λ x. Ok (if is_new (if x then image else New) then held.read else left.before)) two)
      by false true one two = so image (unsynced_in stop unsynced.second image) (in_it false true one two) _ (left.images image image ∙ ap (λ x. Ok (if is_new (if x then image else image) then held.read else left.before)) two)
      by false false one two = so image (unsynced_in stop unsynced.second image) (in_it false false one two) _ (left.images image image ∙ ap (λ x. Ok (if is_new (if x then image else image) then held.read else left.before)) two)

  pub unsynced_held : (stop : ℕ) (image : Image) (one two : List ℕ) → one ≡ (if nat_lt 1 stop then bytes_now (first_disk k.journal).history else image_bytes image (first_disk k.journal).history) → two ≡ image_bytes image (second_disk k.journal).history
      → StandsAt stands (state_unsynced h.state h.unsynced stop image) (place_unsynced h.place h.unsynced stop image) (pair_of one two)
  unsynced_held stop image one two is_one is_two =
      subst (λ l. StandsAt stands (state_unsynced h.state h.unsynced stop image) (place_unsynced h.place h.unsynced stop image) (pair_of l two)) (sym is_one)
      (subst (λ l. StandsAt stands (state_unsynced h.state h.unsynced stop image) (place_unsynced h.place h.unsynced stop image) (pair_of (if nat_lt 1 stop then bytes_now (first_disk k.journal).history else image_bytes image (first_disk k.journal).history) l)) (sym is_two)
      (sync_failed_in h.unsynced held.left stop image (nat_lt 1 stop) refl))
