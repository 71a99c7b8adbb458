-- What a machine holds behind a step.
use Rattle.std.specs.Prelude.{IsTrue, Result, min, nat_lt, option_map, unwrap_or}
use Rattle.std.proofs.lemmas.Bool.Decides.{nat_tests}
use Rattle.std.proofs.Common.{◌≡◌, ◌∙◌, ◌⊎◌, ⊎_elim, ℕ, zero, suc, ◌+◌, ◌-◌, ◌<◌, ◌≤◌, ◌^◌, ◌==◌, Bool, true, false, not, if◌then◌else◌, List, [], ◌∷◌, ◌++◌, length, take, Option, None, Some, IfSome, Err, Ok, ap, arith, inl, inr, refl, subst, sym}
use Rattle.ps_disks.specs.MemoryDisk.{DiskState}
use Rattle.host_journal.specs.Pair.{pair_of}
use Rattle.host_journal.specs.State.{IsAt, State, first_disk, is_ready, second_disk, stored}
use Rattle.host_journal.specs.declared.reading.Counted.{Counted}
use Rattle.host_journal.specs.declared.reading.DiskPlace.{DiskPlace}
use Rattle.machine_keep.specs.Course.{IsInForm, IsRewritten}
use Rattle.machine_keep.specs.Faulted.{seen_on}
use Rattle.machine_keep.specs.Kept.{Kept, StandsFor, after_step}
use Rattle.simulated_machine.specs.Held.{Held, Unsynced, Place, four, on_first, on_second, place_at, place_of, schedule, seven, syncs, with_record, with_snapshot}
use Rattle.simulated_machine.specs.IsHeld.{HasFaults, HasMade, Holds, IsCounting, IsHeld, held_of}
use Rattle.simulated_machine.specs.AfterStep.{Broken, Done, SyncFailed, bytes_in, unsynced_disk_broken, unsynced_disk_still, place_broken}
use Rattle.simulated_machine.proofs.PlaceLemmas.{pair_in_order, place_moved}
use Rattle.simulated_machine.proofs.SimulatedLemmas.{broken_there, counted_there, flag_breaks, flag_stays, is_view, unsynced_there, still_there}

flag_of : {S : Type 0} (f : Bool → Unsynced S) → ((b : Bool) → (f b).second ≡ b) → (flag : Option Bool) → option_map (λ (l : Unsynced S). l.second) (option_map f flag) ≡ flag
flag_of f is None = refl
flag_of f is (Some b) = ap Some (is b)

-- the bytes at a place
pub place_size : {D : Type 0} (s : State D) (pair : Result Counted DiskPlace) (read : Counted) (snapshot records : ℕ) → snapshot ≡ s.start - 21 → records ≡ s.end - s.start → IsAt s pair → pair ≡ Ok read
    → (place_of pair).snapshot + (place_of pair).records ≡ snapshot + records
place_size s pair read snapshot records one two at is =
    let at_read : IsAt s (Ok read) = subst (IsAt s) is at in
    ap (λ p. (place_of p).snapshot + (place_of p).records) is ∙ omega (arith, one, two, at_read.2, at_read.3)

pub over_size : {D : Type 0} (s : State D) (pair : Result Counted DiskPlace) (snapshot records : ℕ) → snapshot ≡ s.start - 21 → records ≡ s.end - s.start → IsAt s pair → (place_of pair).snapshot + (place_of pair).records ≡ snapshot + records
over_size s (Ok read) snapshot records one two at = place_size s (Ok read) read snapshot records one two at refl
over_size s (Err place) snapshot records one two at = absurd at

-- the place behind an opening
abbrev pub OpenedAt : {S : Type 0} → (List (List ℕ) → S → Type 0) → (List (List ℕ) → S → Type 0) → S → Result Counted DiskPlace → Counted → Place → Type 0
OpenedAt stands stood s from read place = (StandsFor stands s from × (place ≡ place_at read)) ⊎ (StandsFor stood s from × ((image : List ℕ) × stands (image ∷ []) s × (place ≡ with_snapshot (place_at read) (length image))))

pub opened_place : {D S : Type 0} (stands stood : List (List ℕ) → S → Type 0) (s : S) (place now : State D) (first second : List ℕ) (pair : Result Counted DiskPlace) → IsAt place (pair_of first second) → IsAt now pair → (image : Option (List ℕ)) → IsRewritten stands s place image now
    → ((read : Counted) → pair_of first second ≡ Ok read → IsInForm stands stood s read.second now.second (pair_of first second))
    → (read : Counted) × (pair_of first second ≡ Ok read) × OpenedAt stands stood s (pair_of first second) read (place_of pair)
opened_place {D} {S} stands stood s place now first second pair at at_now image rewritten form = by (pair_of first second) refl pair at at_now image rewritten
  where
    by : (from : Result Counted DiskPlace) → pair_of first second ≡ from → (p : Result Counted DiskPlace) → IsAt place from → IsAt now p → (image : Option (List ℕ)) → IsRewritten stands s place image now
        → (read : Counted) × (pair_of first second ≡ Ok read) × OpenedAt stands stood s (pair_of first second) read (place_of p)
    by (Err where_it) is p at at_now image rewritten = absurd at
    by (Ok read) is (Err where_it) at at_now image rewritten = absurd at_now
    by (Ok read) is (Ok l) at at_now None rewritten =
        let moved = place_moved place now read l (pair_in_order first second read is) at at_now None None (λ x. x) rewritten in
        (read, is, inl ((form read is).0 (sym at_now.0 ∙ ap (λ (x : Place). x.second) moved), moved))
    by (Ok read) is (Ok l) at at_now (Some image) rewritten =
        let moved = place_moved place now read l (pair_in_order first second read is) at at_now (Some []) (Some image) (λ no. absurd (cc no)) rewritten.1 in
        (read, is, inr ((form read is).1 (sym at_now.0 ∙ ap (λ (x : Place). x.second) moved), (image, rewritten.0, moved)))

-- ---- how many calls each disk made
both_counted : (calls : List Bool) → on_first calls + on_second calls ≡ length calls
both_counted [] = refl
both_counted (true ∷ calls) = let rest = both_counted calls in omega (arith, rest)
both_counted (false ∷ calls) = let rest = both_counted calls in omega (arith, rest)

abbrev behind_syncs : Bool → List Bool
behind_syncs second = four second ++ seven (not second)

fourth : (second : Bool) → (on_second (take 4 (behind_syncs second)) == 4) ≡ second
fourth true = refl
fourth false = refl

eleventh : (second : Bool) → (on_second (take 11 (behind_syncs second)) == 7) ≡ not second
eleventh true = refl
eleventh false = refl

taken_all : (n : ℕ) (calls : List Bool) → n ≤ length calls → length (take n calls) ≡ n
taken_all zero calls few = refl
taken_all (suc n) [] few = absurd (omega (arith, few))
taken_all (suc n) (c ∷ calls) few = ap suc (taken_all n calls (omega (arith, few)))

behind_two : (number : ℕ) (rest : List Bool) → take (2 + number) (false ∷ true ∷ rest) ≡ false ∷ true ∷ take number rest
behind_two number rest = let same : 2 + number ≡ suc (suc number) = omega arith in ap (λ (n : ℕ). take n (false ∷ true ∷ rest)) same

length_behind : (second : Bool) → length (behind_syncs second) ≡ 11
length_behind true = refl
length_behind false = refl

module _ {M S C R T F : Type 0} (fixed : S → F) (state : M → S) (stands : List (List ℕ) → S → Type 0) (bytes : T → List ℕ) (answers : S → C → R → Option T → Type 0) (follows : S → T → Type 0) (after : S → T → S)
    (fixed_after : (s : S) (t : T) → follows s t → fixed (after s t) ≡ fixed s) (old new : Kept M DiskState T) (flag : Option Bool) (faults most : ℕ) (holds : Holds fixed state stands after old flag faults most)
    (fixed_new : fixed (state new.machine) ≡ fixed (state old.machine)) where
  abbrev h : Held S
  h = held_of state after old flag

  abbrev now : Option Bool → Held S
  now = held_of state after new

  fixed_step : (o : Option T) → IfSome o (λ t. follows h.state t) → fixed (after_step after h.state o) ≡ fixed h.state
  fixed_step None may = refl
  fixed_step (Some t) may = fixed_after h.state t may

  -- ---- it was answered
  module _ (call : C) (reply : R) (it : (x : Held S) × IsHeld state stands after new x × Done stands bytes answers follows after h x call reply) where
    answered_view : now None ≡ it.0
    answered_view = is_view state stands after new it.0 it.1 None (ap (λ (x : Held S). option_map (λ l. l.second) x.unsynced) it.2.became)

    pub answered_ready : IsTrue (is_ready new.journal.pending)
    answered_ready = subst (λ b. IsTrue b) (sym (ap (λ (x : Held S). x.ready) it.2.became) ∙ it.1.is_ready) refl

    pub answered_done : Done stands bytes answers follows after h (now None) call reply
    answered_done = subst (λ x. Done stands bytes answers follows after h x call reply) (sym answered_view) it.2

    pub answered_holds : HasFaults new.journal faults → new.put_off ≡ 0 → (snapshot records n : ℕ) → snapshot ≡ new.journal.start - 21 → records ≡ new.journal.end - new.journal.start → n ≡ min (snapshot + records) (2 ^ 64 - 1)
        → IsAt new.journal (stored seen_on new.journal) → Holds fixed state stands after new None faults n
    answered_holds few made snapshot records n one two is at = record {
      held = subst (IsHeld state stands after new) (sym answered_view) it.1;
      few = few;
      made = made;
      is_fixed = ap (λ (x : Held S). fixed x.state) answered_view ∙ (ap (λ (x : Held S). fixed x.state) it.2.became ∙ (fixed_step it.2.step it.2.may ∙ (holds.is_fixed ∙ sym fixed_new)));
      size = λ below. (let sum = place_size new.journal (stored seen_on new.journal) it.1.read snapshot records one two at it.1.is_read in omega (arith, below, is, sum));
    }

    pub answered_counts : (second : Bool) → second ≡ new.journal.second → IsAt new.journal (stored seen_on new.journal) → IsCounting new.journal None second
    answered_counts second is at = record { is_second = is ∙ sym (counted_there new.journal (stored seen_on new.journal) at); is_unsynced = tt }

  -- ---- it met a fault
  abbrev Fault : Held S → C → Type 0
  Fault x call = ((sync_failed : SyncFailed h x) × HasMade old.journal new.journal (take sync_failed.number (schedule h)))
      ⊎ ((broken : Broken stands bytes answers follows after h x call) × HasMade old.journal new.journal (take (length (syncs h.ready) + broken.number) (schedule h)))

  own_flag : option_map (λ l. l.second) h.unsynced ≡ flag
  own_flag = flag_of _ (λ b. refl) flag

  -- how the flag is told from the calls that were made
  pub record Tells (flag_now : Option Bool) (first second : ℕ) : Type 0 where
    pub first_made : length (first_disk new.journal).history.log - length (first_disk old.journal).history.log ≡ first
    pub second_made : length (second_disk new.journal).history.log - length (second_disk old.journal).history.log ≡ second
    pub sync_failed : is_ready old.journal.pending ≡ false → first + second ≤ 2 → flag_now ≡ unsynced_disk_still (first + second) flag
    pub ready : is_ready old.journal.pending ≡ true → first + second < 2 ^ 64 → flag_now ≡ unsynced_disk_broken (first + second) second
    pub again : is_ready old.journal.pending ≡ false → 2 < first + second → first + second < 2 ^ 64 → flag_now ≡ unsynced_disk_broken (first + second - 2) (second - 1)

  module _ (flag_now : Option Bool) (first second : ℕ) (tells : Tells flag_now first second) where
    unsynced_flag : (ready : Bool) → is_ready old.journal.pending ≡ ready → ready ≡ false → (number : ℕ) → 1 ≤ number → number ≤ 2 → HasMade old.journal new.journal (take number (syncs ready ++ behind_syncs h.place.second)) → flag_now ≡ unsynced_disk_still number flag
    unsynced_flag true is never number least most made = absurd (cc never)
    unsynced_flag false is never zero least most made = absurd (omega (arith, least))
    unsynced_flag false is never (suc zero) least most made =
        let one : first ≡ 1 = omega (arith, made.first, tells.first_made) in
        let two : second ≡ 0 = omega (arith, made.second, tells.second_made) in
        let sum : first + second ≡ 1 = omega (arith, one, two) in
        tells.sync_failed is (omega (arith, sum)) ∙ ap (λ (n : ℕ). unsynced_disk_still n flag) sum
    unsynced_flag false is never (suc (suc zero)) least most made =
        let one : first ≡ 1 = omega (arith, made.first, tells.first_made) in
        let two : second ≡ 1 = omega (arith, made.second, tells.second_made) in
        let sum : first + second ≡ 2 = omega (arith, one, two) in
        tells.sync_failed is (omega (arith, sum)) ∙ ap (λ (n : ℕ). unsynced_disk_still n flag) sum
    unsynced_flag false is never (suc (suc (suc n))) least most made = absurd (omega (arith, most))

    broken_flag : (ready : Bool) → is_ready old.journal.pending ≡ ready → (number : ℕ) → 1 ≤ number → number ≤ 11 → HasMade old.journal new.journal (take (length (syncs ready) + number) (syncs ready ++ behind_syncs h.place.second))
        → flag_now ≡ unsynced_disk_broken number (on_second (take number (behind_syncs h.place.second)))
    broken_flag true is number least most made =
        let calls = take number (behind_syncs h.place.second) in
        let all : length calls ≡ number = taken_all number (behind_syncs h.place.second) (omega (arith, most, length_behind h.place.second)) in
        let both = both_counted calls in
        let plain : length (syncs true) + number ≡ number = omega arith in
        let ones : on_first (take (length (syncs true) + number) (syncs true ++ behind_syncs h.place.second)) ≡ on_first calls = ap (λ (n : ℕ). on_first (take n (behind_syncs h.place.second))) plain in
        let twos : on_second (take (length (syncs true) + number) (syncs true ++ behind_syncs h.place.second)) ≡ on_second calls = ap (λ (n : ℕ). on_second (take n (behind_syncs h.place.second))) plain in
        let two : second ≡ on_second calls = omega (arith, made.second, tells.second_made, twos) in
        let sum : first + second ≡ number = omega (arith, made.first, tells.first_made, made.second, tells.second_made, both, all, ones, twos) in
        tells.ready is (omega (arith, sum, most)) ∙ (ap (λ (n : ℕ). unsynced_disk_broken n second) sum ∙ ap (unsynced_disk_broken number) two)
    broken_flag false is number least most made =
        let calls = take number (behind_syncs h.place.second) in
        let all : length calls ≡ number = taken_all number (behind_syncs h.place.second) (omega (arith, most, length_behind h.place.second)) in
        let both = both_counted calls in
        let taken = behind_two number (behind_syncs h.place.second) in
        let ones : on_first (take (length (syncs false) + number) (syncs false ++ behind_syncs h.place.second)) ≡ 1 + on_first calls = ap on_first taken in
        let twos : on_second (take (length (syncs false) + number) (syncs false ++ behind_syncs h.place.second)) ≡ 1 + on_second calls = ap on_second taken in
        let two : second - 1 ≡ on_second calls = omega (arith, made.second, tells.second_made, twos) in
        let sum : first + second ≡ number + 2 = omega (arith, made.first, tells.first_made, made.second, tells.second_made, both, all, ones, twos) in
        let few : first + second - 2 ≡ number = omega (arith, sum) in
        tells.again is (omega (arith, sum, least)) (omega (arith, sum, most)) ∙ (ap (λ (n : ℕ). unsynced_disk_broken n (second - 1)) few ∙ ap (unsynced_disk_broken number) two)

    fourth_is : (number : ℕ) → number ≡ 4 → (on_second (take number (behind_syncs h.place.second)) == 4) ≡ h.place.second
    fourth_is number is = subst (λ (n : ℕ). (on_second (take n (behind_syncs h.place.second)) == 4) ≡ h.place.second) (sym is) (fourth h.place.second)

    eleventh_is : (number : ℕ) → number ≡ 11 → (on_second (take number (behind_syncs h.place.second)) == 7) ≡ not h.place.second
    eleventh_is number is = subst (λ (n : ℕ). (on_second (take n (behind_syncs h.place.second)) == 7) ≡ not h.place.second) (sym is) (eleventh h.place.second)

    module _ (call : C) (x : Held S) (is : IsHeld state stands after new x) where
      flag_so : Fault x call → option_map (λ l. l.second) x.unsynced ≡ flag_now
      flag_so = ⊎_elim
          (λ u. ap (λ (y : Held S). option_map (λ l. l.second) y.unsynced) u.0.became ∙ (flag_stays u.0.number h.unsynced ∙ (ap (unsynced_disk_still u.0.number) own_flag ∙ sym (unsynced_flag h.ready refl u.0.unready u.0.number u.0.least u.0.most u.1))))
          (λ b. ap (λ (y : Held S). option_map (λ l. l.second) y.unsynced) b.0.became ∙ (flag_breaks b.0.number h.place h.state (after h.state b.0.step) (length (bytes b.0.step)) (on_second (take b.0.number (behind_syncs h.place.second))) (fourth_is b.0.number) (eleventh_is b.0.number)
          ∙ sym (broken_flag h.ready refl b.0.number b.0.least b.0.most b.1)))

      faulted_view : Fault x call → now flag_now ≡ x
      faulted_view fault = is_view state stands after new x is flag_now (flag_so fault)

      pub faulted_so : Fault x call → SyncFailed h (now flag_now) ⊎ Broken stands bytes answers follows after h (now flag_now) call
      faulted_so fault = ⊎_elim (λ u. inl (subst (SyncFailed h) (sym (faulted_view fault)) u.0)) (λ b. inr (subst (λ y. Broken stands bytes answers follows after h y call) (sym (faulted_view fault)) b.0)) fault

      fixed_so : Fault x call → fixed x.state ≡ fixed h.state
      fixed_so = ⊎_elim (λ u. ap (λ (y : Held S). fixed y.state) u.0.became)
          (λ b. ap (λ (y : Held S). fixed y.state) b.0.became ∙ by b.0.step b.0.may (nat_lt 3 b.0.number))
        where
          by : (t : T) → follows h.state t → (late : Bool) → fixed (if late then after h.state t else h.state) ≡ fixed h.state
          by t may true = fixed_after h.state t may
          by t may false = refl

      size_so : Fault x call → x.place.snapshot + x.place.records ≤ h.place.snapshot + h.place.records + 2 ^ 33
      size_so = ⊎_elim (λ u. (let same = ap (λ (y : Held S). y.place.snapshot + y.place.records) u.0.became in omega (arith, same)))
          (λ b. (let same = ap (λ (y : Held S). y.place.snapshot + y.place.records) b.0.became in omega (arith, same, broken_size b.0)))
        where
          broken_size : (b : Broken stands bytes answers follows after h x call) → (place_broken b.number h.place (length (bytes b.step)) (bytes_in b.snapshot)).snapshot + (place_broken b.number h.place (length (bytes b.step)) (bytes_in b.snapshot)).records ≤ h.place.snapshot + h.place.records + 2 ^ 33
          broken_size b = by (nat_lt 10 b.number) (nat_lt 3 b.number) refl
            where
              by : (late some : Bool) → nat_lt 10 b.number ≡ late
                  → (if late then with_snapshot h.place (bytes_in b.snapshot) else (if some then with_record h.place (length (bytes b.step)) else h.place)).snapshot + (if late then with_snapshot h.place (bytes_in b.snapshot) else (if some then with_record h.place (length (bytes b.step)) else h.place)).records
                  ≤ h.place.snapshot + h.place.records + 2 ^ 33
              by true some is =
                  let late : 10 < b.number = grind (arith, nat_tests, is) in
                  let due = b.due (omega (arith, late)) in
                  let few : bytes_in b.snapshot < 2 ^ 32 = subst (λ o. bytes_in o < 2 ^ 32) (sym due.1.1) due.1.2.1 in
                  omega (arith, few)
              by false true is = omega (arith, b.short)
              by false false is = omega arith

      pub faulted_holds : Fault x call → most < 2 ^ 62 → HasFaults new.journal (faults + 1) → new.put_off ≡ 0 → Holds fixed state stands after new flag_now (faults + 1) (most + 2 ^ 33)
      faulted_holds fault small few made = record {
        held = subst (IsHeld state stands after new) (sym (faulted_view fault)) is;
        few = few;
        made = made;
        is_fixed = ap (λ (y : Held S). fixed y.state) (faulted_view fault) ∙ (fixed_so fault ∙ (holds.is_fixed ∙ sym fixed_new));
        size = λ below. (let same = ap (λ (y : Held S). y.place.snapshot + y.place.records) (faulted_view fault) in omega (arith, same, size_so fault, holds.size (omega (arith, small))));
      }

      pub faulted_counts : Fault x call → (second : Bool) → IsCounting old.journal flag second → IsCounting new.journal flag_now (unwrap_or flag_now second)
      faulted_counts fault second counts = record {
        is_second = (ap (λ o. unwrap_or o second) (sym (flag_so fault)) ∙ there fault) ∙ sym (ap (λ (y : Held S). y.place.second) (faulted_view fault));
        is_unsynced = unsynced_there flag_now second;
      }
        where
          there : Fault x call → unwrap_or (option_map (λ l. l.second) x.unsynced) second ≡ x.place.second
          there = ⊎_elim
              (λ u. (ap (λ (y : Held S). unwrap_or (option_map (λ l. l.second) y.unsynced) second) u.0.became ∙ (ap (λ o. unwrap_or o second) (flag_stays u.0.number h.unsynced ∙ ap (unsynced_disk_still u.0.number) own_flag)
              ∙ (still_there u.0.number flag second counts.is_unsynced ∙ counts.is_second))) ∙ sym (ap (λ (y : Held S). y.place.second) u.0.became))
              (λ b. (ap (λ (y : Held S). unwrap_or (option_map (λ l. l.second) y.unsynced) second) b.0.became ∙ broken_there b.0.number h.place h.state (after h.state b.0.step) (length (bytes b.0.step)) (bytes_in b.0.snapshot) second b.0.most counts.is_second)
              ∙ sym (ap (λ (y : Held S). y.place.second) b.0.became))
