-- What is held once nothing is armed, and as it is told by what the machine and its disks are.
use Rattle.std.specs.Prelude.{IfSome, Result, nat_lt, option_map, unwrap_or}
use Rattle.std.proofs.lemmas.Bool.Decides.{nat_tests}
use Rattle.std.proofs.Common.{◌≡◌, ◌∙◌, ℕ, ◌+◌, ◌≤◌, ◌<◌, ◌^◌, ◌==◌, ◌||◌, Bool, true, false, not, if◌then◌else◌, List, length, Option, None, Some, Err, Ok, ap, arith, refl, subst, sym}
use Rattle.ps_ports.specs.Causes.{counted}
use Rattle.ps_disks.specs.History.{image_bytes}
use Rattle.ps_disks.specs.MemoryDisk.{DiskState, armed}
use Rattle.ps_disks.specs.Run.{IsArmed}
use Rattle.ps_disks.specs.declared.image.Image.{Image}
use Rattle.ps_disks.specs.declared.image.Image.TheVariants.{Old}
use Rattle.host_journal.specs.Crash.{is_new}
use Rattle.host_journal.specs.Pair.{pair_of}
use Rattle.host_journal.specs.State.{EachImage, IsAt, State, first_disk, has_record, is_ready, second_disk, stored}
use Rattle.host_journal.specs.declared.reading.Counted.{Counted}
use Rattle.host_journal.specs.declared.reading.DiskPlace.{DiskPlace}
use Rattle.machine_keep.specs.Faulted.{left_now, seen_on}
use Rattle.machine_keep.specs.Kept.{Kept, StandsFor, caught}
use Rattle.machine_keep.proofs.LeftLemmas.{is_image}
use Rattle.simulated_machine.specs.Held.{Held, Unsynced, Place, armed_at, place_of, with_record, with_snapshot}
use Rattle.simulated_machine.specs.AfterStep.{unsynced_disk_broken, unsynced_disk_still, unsynced_broken, unsynced_still, place_broken}
use Rattle.simulated_machine.specs.IsHeld.{HasFaults, HasMade, IsHeld, Leaves, held_of}

pub or_parts : (a b : Bool) → (a || b) ≡ false → (a ≡ false) × (b ≡ false)
or_parts true b is = absurd (cc is)
or_parts false b is = (refl, is)

-- a count that stood still
pub same_faults : (old new n : ℕ) → counted new ≡ counted old → old ≤ n → n + 2 < 2 ^ 64 → new ≤ n
same_faults old new n same few fits = omega (arith, same, few, fits)

-- ---- arming, which changes nothing else
module _ {M S T : Type 0} (state : M → S) (stands : List (List ℕ) → S → Type 0) (after : S → T → S) (n : ℕ) (mid new : Kept M DiskState T)
    (one : first_disk new.journal ≡ armed (first_disk mid.journal) n) (two : second_disk new.journal ≡ armed (second_disk mid.journal) n)
    (pending : new.journal.pending ≡ mid.journal.pending) (machine : new.machine ≡ mid.machine) (unsure : new.unsure ≡ mid.unsure) where
  first_image : (i : Image) → image_bytes i (first_disk new.journal).history ≡ image_bytes i (first_disk mid.journal).history
  first_image i = ap (λ (d : DiskState). image_bytes i d.history) one

  second_image : (i : Image) → image_bytes i (second_disk new.journal).history ≡ image_bytes i (second_disk mid.journal).history
  second_image i = ap (λ (d : DiskState). image_bytes i d.history) two

  both_images : (i j : Image) → pair_of (image_bytes i (first_disk new.journal).history) (image_bytes j (second_disk new.journal).history) ≡ pair_of (image_bytes i (first_disk mid.journal).history) (image_bytes j (second_disk mid.journal).history)
  both_images i j = ap (λ (l : List ℕ). pair_of l (image_bytes j (second_disk new.journal).history)) (first_image i) ∙ ap (pair_of (image_bytes i (first_disk mid.journal).history)) (second_image j)

  same_stored : stored seen_on new.journal ≡ stored seen_on mid.journal
  same_stored = ap (λ (d : DiskState). pair_of (seen_on d) (seen_on (second_disk new.journal))) one ∙ ap (λ (d : DiskState). pair_of (seen_on (first_disk mid.journal)) (seen_on d)) two

  same_state : caught after (state new.machine) new.unsure (has_record new.journal.pending (stored seen_on new.journal)) ≡ caught after (state mid.machine) mid.unsure (has_record mid.journal.pending (stored seen_on mid.journal))
  same_state =
      ap (λ (m : M). caught after (state m) new.unsure (has_record new.journal.pending (stored seen_on new.journal))) machine
      ∙ (ap (λ (u : Option T). caught after (state mid.machine) u (has_record new.journal.pending (stored seen_on new.journal))) unsure
      ∙ (ap (λ p. caught after (state mid.machine) mid.unsure (has_record p (stored seen_on new.journal))) pending
      ∙ ap (λ p. caught after (state mid.machine) mid.unsure (has_record mid.journal.pending p)) same_stored))

  same_left : (read : Counted) (o : Option (Unsynced S)) → Leaves stands (state mid.machine) mid.journal read o → Leaves stands (state new.machine) new.journal read o
  same_left read None left = λ i j. both_images i j ∙ left i j
  same_left read (Some unsynced) left = record {
    is_state = left.is_state ∙ ap state (sym machine);
    before = left.before;
    place = left.place;
    stood = left.stood;
    images = λ i j. both_images i j ∙ left.images i j;
    synced = λ i. (ap (λ (d : DiskState). pair_of (seen_on d) (image_bytes i (second_disk new.journal).history)) one ∙ ap (pair_of (seen_on (first_disk mid.journal))) (second_image i)) ∙ left.synced i;
  }

  now_armed : (now disk : DiskState) (m : ℕ) → now ≡ armed disk n → IsArmed disk m → IsArmed now n
  now_armed now disk m is a = subst (λ d. IsArmed d n) (sym is) (record { reads = a.reads; fed = a.fed; few = a.few; armed = refl })

  pub held_armed : (h : Held S) → IsHeld state stands after mid h → IsHeld state stands after new (armed_at h n)
  held_armed h is = record {
    is_state = is.is_state ∙ sym same_state;
    is_ready = is.is_ready ∙ sym (ap is_ready pending);
    read = is.read;
    is_read = same_stored ∙ is.is_read;
    is_place = is.is_place;
    stood = is.stood;
    left = same_left is.read h.unsynced is.left;
    unready = is.unready;
    first = now_armed (first_disk new.journal) (first_disk mid.journal) h.first one is.first;
    second = now_armed (second_disk new.journal) (second_disk mid.journal) h.second two is.second;
  }

  pub faults_armed : (most : ℕ) → HasFaults mid.journal most → HasFaults new.journal most
  faults_armed most few = (subst (λ d. d.faults ≤ most) (sym one) few.0, subst (λ d. d.faults ≤ most) (sym two) few.1)

  pub made_armed : (old : Kept M DiskState T) (calls : List Bool) → HasMade old.journal mid.journal calls → HasMade old.journal new.journal calls
  made_armed old calls made = record {
    first = ap (λ (d : DiskState). length d.history.log) one ∙ made.first;
    second = ap (λ (d : DiskState). length d.history.log) two ∙ made.second;
  }

-- ---- what is held, as a function of the kept machine
same_unsynced : {S : Type 0} (a b : Unsynced S) → a.second ≡ b.second → a.state ≡ b.state → a.place ≡ b.place → a ≡ b
same_unsynced {S} a b second state place =
    ap (λ (x : Bool). record { second = x; state = a.state; place = a.place }) second
    ∙ (ap (λ (x : S). record { second = b.second; state = x; place = a.place }) state ∙ ap (λ (x : Place). record { second = b.second; state = b.state; place = x }) place)

same_held : {S : Type 0} (a b : Held S) → a.state ≡ b.state → a.place ≡ b.place → a.ready ≡ b.ready → a.unsynced ≡ b.unsynced → a.first ≡ b.first → a.second ≡ b.second → a ≡ b
same_held {S} a b state place ready unsynced first second =
    ap (λ (x : S). record { state = x; place = a.place; ready = a.ready; unsynced = a.unsynced; first = a.first; second = a.second }) state
    ∙ (ap (λ (x : Place). record { state = b.state; place = x; ready = a.ready; unsynced = a.unsynced; first = a.first; second = a.second }) place
    ∙ (ap (λ (x : Bool). record { state = b.state; place = b.place; ready = x; unsynced = a.unsynced; first = a.first; second = a.second }) ready
    ∙ (ap (λ (x : Option (Unsynced S)). record { state = b.state; place = b.place; ready = b.ready; unsynced = x; first = a.first; second = a.second }) unsynced
    ∙ (ap (λ (x : ℕ). record { state = b.state; place = b.place; ready = b.ready; unsynced = b.unsynced; first = x; second = a.second }) first
    ∙ ap (λ (x : ℕ). record { state = b.state; place = b.place; ready = b.ready; unsynced = b.unsynced; first = b.first; second = x }) second))))

module _ {M S T : Type 0} (state : M → S) (stands : List (List ℕ) → S → Type 0) (after : S → T → S) (k : Kept M DiskState T) where
  abbrev unsynced_now : Bool → Unsynced S
  unsynced_now second = record { second = second; state = state k.machine; place = place_of (pair_of (image_bytes Old (first_disk k.journal).history) (image_bytes Old (second_disk k.journal).history)) }

  is_unsynced : (read : Counted) (o : Option (Unsynced S)) → Leaves stands (state k.machine) k.journal read o → option_map unsynced_now (option_map (λ l. l.second) o) ≡ o
  is_unsynced read None left = refl
  is_unsynced read (Some unsynced) left = ap Some (same_unsynced (unsynced_now unsynced.second) unsynced refl (sym left.is_state) (ap place_of (by unsynced.second (left.images Old Old)) ∙ sym left.place))
    where
      by : {E : Type 0} {p : Result Counted E} (b : Bool) → p ≡ Ok (if is_new (if b then Old else Old) then read else left.before) → p ≡ Ok left.before
      by true is = is
      by false is = is

  pub is_view : (h : Held S) → IsHeld state stands after k h → (flag : Option Bool) → option_map (λ l. l.second) h.unsynced ≡ flag → held_of state after k flag ≡ h
  is_view h is flag same = same_held (held_of state after k flag) h (sym is.is_state) (ap place_of is.is_read ∙ sym is.is_place) (sym is.is_ready)
      (ap (option_map unsynced_now) (sym same) ∙ is_unsynced is.read h.unsynced is.left) is.first.armed is.second.armed

-- ---- the disk of which something is unsynced
pub flag_stays : {S : Type 0} (number : ℕ) (o : Option (Unsynced S)) → option_map (λ l. l.second) (unsynced_still number o) ≡ unsynced_disk_still number (option_map (λ l. l.second) o)
flag_stays number None = refl
flag_stays {S} number (Some unsynced) = by (nat_lt 1 number) unsynced.second refl
  where
    by : (b c : Bool) → unsynced.second ≡ c → option_map (λ (l : Unsynced S). l.second) (if b then (if c then Some unsynced else None) else Some unsynced) ≡ (if b then (if c then Some true else None) else Some c)
    by true true is = ap Some is
    by true false is = refl
    by false c is = ap Some is

-- of so many calls on the second disk of a record and a snapshot, behind the syncs
pub flag_breaks : {S : Type 0} (number : ℕ) (p : Place) (before later : S) (bytes made : ℕ) → (number ≡ 4 → (made == 4) ≡ p.second) → (number ≡ 11 → (made == 7) ≡ not p.second)
    → option_map (λ l. l.second) (unsynced_broken number p before later bytes) ≡ unsynced_disk_broken number made
flag_breaks {S} number p before later bytes made four_is seven_is = by (number == 4) (number == 11) (λ t. four_is (nat_eq_is number 4 t)) (λ t. seven_is (nat_eq_is number 11 t))
  where
    nat_eq_is : (a b : ℕ) → (a == b) ≡ true → a ≡ b
    nat_eq_is a b is = grind (arith, nat_tests, is)

    by : (b c : Bool) → (b ≡ true → (made == 4) ≡ p.second) → (c ≡ true → (made == 7) ≡ not p.second)
        → option_map (λ (l : Unsynced S). l.second) (if b then Some (record { second = p.second; state = before; place = p }) else (if c then Some (record { second = not p.second; state = later; place = with_record p bytes }) else None))
        ≡ (if b then Some (made == 4) else (if c then Some (made == 7) else None))
    by true c is other = ap Some (sym (is refl))
    by false true is other = ap Some (sym (other refl))
    by false false is other = refl

-- ---- a machine of which nothing is armed, and whose disks are all made sure of
pub held_over : {M S T : Type 0} (state : M → S) (stands : List (List ℕ) → S → Type 0) (after : S → T → S) (k : Kept M DiskState T) → is_ready k.journal.pending ≡ true → k.unsure ≡ None → StandsFor stands (state k.machine) (stored seen_on k.journal)
    → EachImage left_now k.journal (λ pair. pair ≡ stored seen_on k.journal) → IsArmed (first_disk k.journal) (first_disk k.journal).until_fault → IsArmed (second_disk k.journal) (second_disk k.journal).until_fault → IsHeld state stands after k (held_of state after k None)
held_over state stands after k ready sure stood each one two = by (stored seen_on k.journal) refl stood
  where
    by : (p : Result Counted DiskPlace) → stored seen_on k.journal ≡ p → StandsFor stands (state k.machine) p → IsHeld state stands after k (held_of state after k None)
    by (Err at) is never = absurd never
    by (Ok read) is stood_now = record {
      is_state = refl;
      is_ready = refl;
      read = read;
      is_read = is;
      is_place = ap place_of is;
      stood = subst (λ s. stands read.list s) (sym (ap (λ u. caught after (state k.machine) u (has_record k.journal.pending (stored seen_on k.journal))) sure)) stood_now;
      left = λ i j. each (image_bytes i (first_disk k.journal).history) (image_bytes j (second_disk k.journal).history) (is_image i (first_disk k.journal).history) (is_image j (second_disk k.journal).history) ∙ is;
      unready = λ unsynced no. absurd (cc no);
      first = one;
      second = two;
    }

-- ---- which disk counts
pub counted_there : {D : Type 0} (s : State D) (pair : Result Counted DiskPlace) → IsAt s pair → (place_of pair).second ≡ s.second
counted_there s (Ok read) at = at.0
counted_there s (Err place) at = absurd at

-- what is unsynced still is on that one
pub still_there : (number : ℕ) (flag : Option Bool) (second : Bool) → IfSome flag (λ disk. disk ≡ second) → unwrap_or (unsynced_disk_still number flag) second ≡ second
still_there number None second there = refl
still_there number (Some disk) second there = by (nat_lt 1 number) disk there
  where
    by : (late c : Bool) → c ≡ second → unwrap_or (if late then (if c then Some true else None) else Some c) second ≡ second
    by true true is = is
    by true false is = refl
    by false c is = is

pub broken_there : {S : Type 0} (number : ℕ) (p : Place) (before later : S) (bytes snapshot : ℕ) (second : Bool) → number ≤ 11 → second ≡ p.second
    → unwrap_or (option_map (λ (l : Unsynced S). l.second) (unsynced_broken number p before later bytes)) second ≡ (place_broken number p bytes snapshot).second
broken_there {S} number p before later bytes snapshot second most is = by (number == 4) (number == 11) (nat_lt 10 number) (nat_lt 3 number) refl refl refl
  where
    by : (four eleven late some : Bool) → (number == 4) ≡ four → (number == 11) ≡ eleven → nat_lt 10 number ≡ late
        → unwrap_or (option_map (λ (l : Unsynced S). l.second) (if four then Some (record { second = p.second; state = before; place = p }) else (if eleven then Some (record { second = not p.second; state = later; place = with_record p bytes }) else None))) second
        ≡ (if late then with_snapshot p snapshot else (if some then with_record p bytes else p)).second
    by true eleven true some at_four at_eleven above = absurd (grind (arith, nat_tests, at_four, above))
    by true eleven false true at_four at_eleven above = refl
    by true eleven false false at_four at_eleven above = refl
    by false true true some at_four at_eleven above = refl
    by false true false some at_four at_eleven above = absurd (grind (arith, nat_tests, at_eleven, above))
    by false false true some at_four at_eleven above = absurd (grind (arith, nat_tests, at_eleven, above, most))
    by false false false true at_four at_eleven above = is
    by false false false false at_four at_eleven above = is

pub unsynced_there : (flag : Option Bool) (second : Bool) → IfSome flag (λ disk. disk ≡ unwrap_or flag second)
unsynced_there None second = tt
unsynced_there (Some disk) second = refl
