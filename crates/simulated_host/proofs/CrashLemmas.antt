-- What a crash leaves of a kept host is what the definition of its host says.
use Rattle.std.specs.Prelude.{IfOk, ◌-◌, ◌&&◌, ◌||◌, ◌<◌, ◌≤◌, ◌^◌, nat_le, nat_lt, not, option_map, if◌then◌else◌}
use Rattle.std.proofs.Common.{◌≡◌, ◌∙◌, ◌+◌, ap, arith, inl, inr, refl, subst, sym, ◌∷◌, Bool, false, true, List, [], length, None, Option, Some, Result, ℕ}
use Rattle.std.proofs.lemmas.Bool.Decides.{nat_tests}
use Rattle.std.proofs.lemmas.Result.{IfOk-weaker}
use Rattle.ps_disks.specs.declared.image.Image.{Image}
use Rattle.host_journal.specs.Crash.{is_new, opens_gate, opens_head}
use Rattle.host_journal.specs.Pair.{pair_of}
use Rattle.host_journal.specs.State.{has_record, stored}
use Rattle.ps_disks.specs.History.{bytes_now}
use Rattle.ps_disks.specs.MemoryDisk.{DiskState}
use Rattle.host_journal.specs.declared.reading.Counted.{Counted}
use Rattle.host_journal.specs.declared.reading.DiskPlace.{DiskPlace}
use Rattle.host_keep.specs.Laws.{nothing_after}
use Rattle.host_keep.specs.Standing.{Answers, Follows, Seen, Standing, StandsNow, after}
use Rattle.host_keep.specs.declared.call.HostCall.{HostCall}
use Rattle.host_keep.specs.declared.call.HostStep.{HostStep}
use Rattle.machine_keep.specs.Crash.{IsPutOff, keeps_step}
use Rattle.machine_keep.specs.Faulted.{seen_on}
use Rattle.machine_keep.specs.Kept.{after_step, caught}
use Rattle.simulated_machine.specs.Crashed.{IsSnapshotDue, StandsAt, Stops, unsynced_in, place_stopped, place_unsynced, state_unsynced}
use Rattle.simulated_machine.specs.Held.{Held, Unsynced, Place, armed_at, calls_of, is_many_at, place_after, syncs, with_record, with_snapshot}
use Rattle.simulated_machine.specs.IsHeld.{SimulatedState, held, held_of}
use Rattle.host_model.specs.Step.{step_changes}
use Rattle.host_model.specs.declared.change.Change.{Change}
use Rattle.host_model.specs.declared.change.Changes.{Changes}
use Rattle.host_model.specs.declared.input.Input.{Input}
use Rattle.host_model.specs.declared.reply.Reply.{Reply}
use Rattle.world_law.specs.World.{Stage}
use Rattle.rehearsal_script.specs.declared.script.Stop.{Stop}
use Rattle.rehearsal_model.specs.After.{cut_stage}
use Rattle.rehearsal_model.specs.Plays.{IsSimulated}
use Rattle.rehearsal_model.specs.Simulations.{is_kept_in}
use Rattle.rehearsal_model.specs.Simulated.{Left, Written, among, calls_for, can_snap, done, is_before, left_behind, left_stopped, left_unsynced, record_length, recorded_by, reply_unless, snapped_by, snapshot_length, stop_met, unless_none, written_at}
use Rattle.rehearsal_model.specs.Seen.{acted}
use Rattle.simulated_host.specs.Staged.{IsLeft, staged_unsynced, stage_of, staged, standing_of}
use Rattle.rehearsal_model.proofs.MoveLemmas.{cut_config}
use Rattle.rehearsal_model.proofs.SimulationLemmas.{config_chosen, unsynced_left_is}
use Rattle.simulated_host.proofs.StepLemmas.{bytes_kept, later_is, record_is, size_kept, snapped_few, snapped_is, snapped_some, snapshot_is, syncs_counted}

-- ---- what is unsynced
state_left : (s : Standing) (l : Option (Unsynced Standing)) (stop : ℕ) (image : Image) → state_unsynced (stage_of s) (option_map staged_unsynced l) stop image ≡ stage_of (state_unsynced s l stop image)
state_left s None stop image = refl
state_left s (Some l) stop image = by (is_new (unsynced_in stop l.second image))
  where
    by : (b : Bool) → (if b then stage_of s else stage_of l.state) ≡ stage_of (if b then s else l.state)
    by true = refl
    by false = refl

place_left : (p : Place) (l : Option (Unsynced Standing)) (stop : ℕ) (image : Image) → place_unsynced p (option_map staged_unsynced l) stop image ≡ place_unsynced p l stop image
place_left p None stop image = refl
place_left p (Some l) stop image = refl

-- disks that stand for an equal state, at an equal place
moved_to : (s t : Standing) → s ≡ t → (p q : Place) → p ≡ q → (pair : Result Counted DiskPlace) → StandsAt StandsNow s p pair → StandsAt StandsNow t q pair
moved_to s t a p q b pair stands = subst (λ (x : Standing). StandsAt StandsNow x q pair) a (subst (λ (x : Place). StandsAt StandsNow s x pair) b stands)

pub unsynced_left : (h : Held Standing) (stop : ℕ) (image : Image) (pair : Result Counted DiskPlace) → StandsAt StandsNow (state_unsynced h.state h.unsynced stop image) (place_unsynced h.place h.unsynced stop image) pair → IsLeft (left_unsynced (staged h) stop image) pair
unsynced_left h stop image pair stands =
    moved_to (state_unsynced h.state h.unsynced stop image) (standing_of (state_unsynced (stage_of h.state) (option_map staged_unsynced h.unsynced) stop image)) (sym (ap standing_of (state_left h.state h.unsynced stop image)))
    (place_unsynced h.place h.unsynced stop image) (place_unsynced h.place (option_map staged_unsynced h.unsynced) stop image) (sym (place_left h.place h.unsynced stop image)) pair stands

-- a crash between two steps: what is unsynced is kept in the image that keeps what no sync made sure of
abbrev pub left_now : Held Stage → Image → Left
left_now h image = left_unsynced h 0 image

pub now_left : (h : Held Standing) (image : Image) (pair : Result Counted DiskPlace) → StandsAt StandsNow (state_unsynced h.state h.unsynced 0 image) (place_unsynced h.place h.unsynced 0 image) pair → IsLeft (left_now (staged h) image) pair
now_left h image pair stands = unsynced_left h 0 image pair stands

-- ---- behind the syncs
-- a snapshot counts behind the record's four calls alone
place_early : (number : ℕ) (image : Image) (p : Place) (r s t : Option ℕ) → number ≤ 4 → place_stopped number image p r s ≡ place_stopped number image p r t
place_early number image p None s t low = refl
place_early number image p (Some n) s t low = early s ∙ sym (early t)
  where
    shut : opens_head (number - 4) image ≡ false
    shut = let none : number - 4 ≡ 0 = omega (arith, low) in ap (λ (k : ℕ). opens_head k image) none

    early : (o : Option ℕ) → place_stopped number image p (Some n) o ≡ (if keeps_step number image then with_record p n else p)
    early None = refl
    early (Some m) = ap (λ (b : Bool). if b then with_snapshot p m else (if keeps_step number image then with_record p n else p)) shut

-- one that is put off
snapped_off : (s : Standing) (p : Place) (bytes : ℕ) → IsPutOff StandsNow s p.generation → None ≡ snapped_by p s.book (Some bytes)
snapped_off s p bytes off =
    let cannot : can_snap p (snapshot_length s.book) ≡ false = elim off [
      | inl last ↦ no_next last
      | inr long ↦ subst (λ (n : ℕ). can_snap p n ≡ false) (snapshot_is s long.0 long.1) (too_long (length long.0) long.2)
    ] in
    sym (ap (λ (b : Bool). if is_many_at p bytes && b then Some (snapshot_length s.book) else None) cannot ∙ never (is_many_at p bytes))
  where
    both_false : (b : Bool) → (b && false) ≡ false
    both_false true = refl
    both_false false = refl

    no_next : p.generation + 1 ≡ 2 ^ 64 → can_snap p (snapshot_length s.book) ≡ false
    no_next last = let test : nat_lt (p.generation + 1) (2 ^ 64) ≡ false = grind (arith, nat_tests, last) in ap (λ (b : Bool). nat_lt (snapshot_length s.book) (2 ^ 32) && b) test ∙ both_false (nat_lt (snapshot_length s.book) (2 ^ 32))

    too_long : (n : ℕ) → 2 ^ 32 ≤ n → can_snap p n ≡ false
    too_long n long = let test : nat_lt n (2 ^ 32) ≡ false = grind (arith, nat_tests, long) in ap (λ (b : Bool). b && nat_lt (p.generation + 1) (2 ^ 64)) test

    never : (b : Bool) → (if b && false then Some (snapshot_length s.book) else None) ≡ None
    never true = refl
    never false = refl

due_is : (s : Standing) (p : Place) (step : Option HostStep) (snapshot : Option (List ℕ)) → IsSnapshotDue StandsNow s p (option_map bytes_kept step) snapshot → option_map length snapshot ≡ snapped_by p s.book (option_map size_kept step)
due_is s p None snapshot due = ap (λ (o : Option (List ℕ)). option_map length o) due
due_is s p (Some step) None due = elim due [
  | inl few ↦ snapped_few s.book p (size_kept step) few
  | inr off ↦ snapped_off s p (size_kept step) off
]
due_is s p (Some step) (Some image) due = snapped_some s p (size_kept step) image due.0 due.1

module _ (h : Held Standing) (call : HostCall) (number : ℕ) (image : Image) (pair : Result Counted DiskPlace) (is : Stops StandsNow bytes_kept Answers Follows after h call number image pair) where
  abbrev wrote : Option ℕ
  wrote = (written_at (staged h) call.clock call.input).snapshot_bytes

  cut_is : (kept : Bool) → stage_of (if kept then after_step after h.state is.step else h.state) ≡ cut_stage kept (stage_of h.state) call.clock call.input
  cut_is true = later_is h call is.reply is.step is.answered is.may
  cut_is false = refl

  place_due : place_stopped number image h.place (option_map size_kept is.step) (option_map length is.snapshot) ≡ place_stopped number image h.place (option_map size_kept is.step) wrote
  place_due = by (nat_le number 4) refl
    where
      by : (b : Bool) → nat_le number 4 ≡ b → place_stopped number image h.place (option_map size_kept is.step) (option_map length is.snapshot) ≡ place_stopped number image h.place (option_map size_kept is.step) wrote
      by true low = place_early number image h.place (option_map size_kept is.step) (option_map length is.snapshot) wrote (grind (arith, nat_tests, low))
      by false high =
          ap (place_stopped number image h.place (option_map size_kept is.step))
          (due_is (after_step after h.state is.step) h.place is.step is.snapshot (is.due (grind (arith, nat_tests, high))) ∙ snapped_is h call is.reply is.step is.answered is.may)

  pub behind_left : IsLeft (left_behind (staged h) call.clock call.input number image) pair
  behind_left =
      moved_to (if keeps_step number image then after_step after h.state is.step else h.state) (standing_of (cut_stage (keeps_step number image) (stage_of h.state) call.clock call.input)) (ap standing_of (cut_is (keeps_step number image)))
      (place_stopped number image h.place (option_map size_kept is.step) (option_map length is.snapshot)) (place_stopped number image h.place (written_at (staged h) call.clock call.input).record_bytes wrote)
      (place_due ∙ ap (λ (o : Option ℕ). place_stopped number image h.place o wrote) (record_is h call is.reply is.step is.answered is.may)) pair is.left

-- ---- either
early_test : (ready : Bool) (stop : ℕ) → ready ≡ false → stop ≤ 2 → (not ready && nat_le stop 2) ≡ true
early_test ready stop unready low = ap (λ (b : Bool). not b && nat_le stop 2) unready ∙ low_test
  where
    low_test : nat_le stop 2 ≡ true
    low_test = grind (arith, nat_tests, low)

pub stopped_early : (h : Held Stage) (clock : ℕ) (i : Input) (stop : Stop) → h.ready ≡ false → stop.call ≤ 2 → left_unsynced h stop.call stop.image ≡ left_stopped h clock i stop
stopped_early h clock i stop unready low = sym (ap (λ (b : Bool). if b then left_unsynced h stop.call stop.image else left_behind h clock i (stop.call - length (syncs h.ready)) stop.image) (early_test h.ready stop.call unready low))

late_test : (ready : Bool) (stop : ℕ) → (ready ≡ false → 2 < stop) → (not ready && nat_le stop 2) ≡ false
late_test true stop late = refl
late_test false stop late = let high = late refl in grind (arith, nat_tests, high)

pub stopped_late : (h : Held Stage) (clock : ℕ) (i : Input) (stop : Stop) → (h.ready ≡ false → 2 < stop.call) → left_behind h clock i (stop.call - length (syncs h.ready)) stop.image ≡ left_stopped h clock i stop
stopped_late h clock i stop late = sym (ap (λ (b : Bool). if b then left_unsynced h stop.call stop.image else left_behind h clock i (stop.call - length (syncs h.ready)) stop.image) (late_test h.ready stop.call late))

module _ {E : Type 0} (h : Held Standing) (call : HostCall) (stop : Stop) (result : Result (DiskState × DiskState) E) where
  abbrev pair_at : DiskState × DiskState → Result Counted DiskPlace
  pair_at d = pair_of (bytes_now d.0.history) (bytes_now d.1.history)

  -- what the host says of a stop, where the calls of its disks are armed so
  abbrev Early : Held Standing → Type 0
  Early a = a.ready ≡ false → stop.call ≤ 2 → IfOk result (λ d. StandsAt StandsNow (state_unsynced a.state a.unsynced stop.call stop.image) (place_unsynced a.place a.unsynced stop.call stop.image) (pair_at d))

  abbrev Late : Held Standing → Type 0
  Late a = (a.ready ≡ false → 2 < stop.call) → IfOk result (λ d. Stops StandsNow bytes_kept Answers Follows after a call (stop.call - length (syncs a.ready)) stop.image (pair_at d))

  abbrev Wanted : Type 0
  Wanted = IfOk result (λ d. IsLeft (left_stopped (staged h) call.clock call.input stop) (pair_at d))

  late_so : (h.ready ≡ false → 2 < stop.call) → Late (armed_at h 0) → Wanted
  late_so high late =
      IfOk-weaker result (λ d. Stops StandsNow bytes_kept Answers Follows after (armed_at h 0) call (stop.call - length (syncs h.ready)) stop.image (pair_at d)) (λ d. IsLeft (left_stopped (staged h) call.clock call.input stop) (pair_at d))
      (λ d stops. subst (λ (x : Left). IsLeft x (pair_at d)) (stopped_late (staged h) call.clock call.input stop high) (behind_left (armed_at h 0) call (stop.call - length (syncs h.ready)) stop.image (pair_at d) stops))
      (late high)

  early_so : h.ready ≡ false → stop.call ≤ 2 → Early (armed_at h 0) → Wanted
  early_so unready low early =
      IfOk-weaker result (λ d. StandsAt StandsNow (state_unsynced h.state h.unsynced stop.call stop.image) (place_unsynced h.place h.unsynced stop.call stop.image) (pair_at d)) (λ d. IsLeft (left_stopped (staged h) call.clock call.input stop) (pair_at d))
      (λ d stands. subst (λ (x : Left). IsLeft x (pair_at d)) (stopped_early (staged h) call.clock call.input stop unready low) (unsynced_left h stop.call stop.image (pair_at d) stands))
      (early unready low)

  -- of a host of which no call is to fail any more
  pub crash_stopped : (a : Held Standing) → a ≡ armed_at h 0 → Early a → Late a → Wanted
  crash_stopped a armed early late = by h.ready (nat_le stop.call 2) refl refl
    where
      by : (ready low : Bool) → h.ready ≡ ready → nat_le stop.call 2 ≡ low → Wanted
      by true low is test = late_so (λ f. cc (is, f)) (subst Late armed late)
      by false true is test = early_so is (grind (arith, nat_tests, test)) (subst Early armed early)
      by false false is test = late_so (λ f. grind (arith, nat_tests, test)) (subst Late armed late)

-- ---- a step whose calls are all made
unless_nothing : (cs : List Change) (bytes : ℕ) → unless_none cs bytes ≡ None → cs ≡ []
unless_nothing [] bytes none = refl
unless_nothing (c ∷ cs) bytes none = cc

nothing_acted : (s : Stage) (clock : ℕ) (i : Input) → recorded_by s clock i ≡ None → acted s clock i ≡ s
nothing_acted s clock i none =
    let c : Changes = step_changes s.config s.book clock i in
    ap (λ b. record { config = s.config; book = b }) (nothing_after s.book c (unless_nothing c.list (record_length c) none))

-- a stop behind the last of them leaves what a crash between two steps leaves of the host behind it
module _ (h : Held Stage) (clock : ℕ) (i : Input) (stop : Stop) (behind : calls_for h (written_at h clock i) < stop.call) where
  abbrev w : Written
  w = written_at h clock i

  abbrev number : ℕ
  number = stop.call - length (syncs h.ready)

  cut_none : (b : Bool) → recorded_by h.state clock i ≡ None → acted h.state clock i ≡ cut_stage b h.state clock i
  cut_none true none = refl
  cut_none false none = nothing_acted h.state clock i none

  or_true : (b : Bool) → (b || true) ≡ true
  or_true true = refl
  or_true false = refl

  gate_open : 4 < number → keeps_step number stop.image ≡ true
  gate_open late = let test : nat_lt 4 number ≡ true = grind (arith, nat_tests, late) in ap (λ b. opens_gate number stop.image || b) test ∙ or_true (opens_gate number stop.image)

  head_open : 11 < number → opens_head (number - 4) stop.image ≡ true
  head_open late =
      let test : nat_lt 7 (number - 4) ≡ true = grind (arith, nat_tests, late) in
      ap (λ b. (nat_lt 5 (number - 4) && is_new stop.image) || b) test ∙ or_true (nat_lt 5 (number - 4) && is_new stop.image)

  abbrev left_made : Option ℕ → Option ℕ → Left
  left_made r s = record { state = acted h.state clock i; place = place_after h.place r s }

  abbrev left_cut : Option ℕ → Option ℕ → Left
  left_cut r s = record { state = cut_stage (keeps_step number stop.image) h.state clock i; place = place_stopped number stop.image h.place r s }

  behind_made : left_now (done h clock i) stop.image ≡ left_behind h clock i number stop.image
  behind_made = by w.record_bytes w.snapshot_bytes refl behind
    where
      by : (r s : Option ℕ) → w.record_bytes ≡ r → calls_of h.ready r s < stop.call → left_made r s ≡ left_cut r s
      by None s none late = ap (λ x. record { state = x; place = h.place }) (cut_none (keeps_step number stop.image) none)
      by (Some n) None is late =
          let enough : 4 < number = omega (arith, late) in
          ap (λ b. record { state = cut_stage b h.state clock i; place = if b then with_record h.place n else h.place }) (sym (gate_open enough))
      by (Some n) (Some m) is late =
          let enough : 11 < number = omega (arith, late) in
          let most : 4 < number = omega (arith, late) in
          ap (λ b. record { state = cut_stage b h.state clock i; place = with_snapshot h.place m }) (sym (gate_open most))
          ∙ ap (λ b. record { state = cut_stage (keeps_step number stop.image) h.state clock i; place = if b then with_snapshot h.place m else (if keeps_step number stop.image then with_record h.place n else h.place) }) (sym (head_open enough))

  unready_late : h.ready ≡ false → 2 < stop.call
  unready_late unready =
      let two : length (syncs h.ready) ≡ 2 = ap (λ b. length (syncs b)) unready in
      omega (arith, two, behind, syncs_counted h.ready w.record_bytes w.snapshot_bytes)

  pub made_left : left_now (done h clock i) stop.image ≡ left_stopped h clock i stop
  made_left = behind_made ∙ stopped_late h clock i stop unready_late

-- ---- which stop a step meets
-- a call that fails isn't before it
pub not_met : (stop : Stop) (calls : ℕ) (fault : Option ℕ) → is_before stop.call fault ≡ false → stop_met (Some stop) (among calls fault) ≡ Some stop
not_met stop calls None later = refl
not_met stop calls (Some n) later = by (nat_le n calls)
  where
    by : (b : Bool) → stop_met (Some stop) (if b then Some n else None) ≡ Some stop
    by true = ap (λ t. if t then None else Some stop) later
    by false = refl

-- a step that isn't answered met a fault
pub none_met : (stop : Stop) (calls : ℕ) (fault : Option ℕ) (said : Reply) → is_before stop.call fault ≡ true → None ≡ reply_unless (among calls fault) said → stop_met (Some stop) (among calls fault) ≡ None
none_met stop calls None said before silent = cc
none_met stop calls (Some n) said before silent = by (nat_le n calls) silent
  where
    by : (b : Bool) → None ≡ reply_unless (if b then Some n else None) said → stop_met (Some stop) (if b then Some n else None) ≡ None
    by true e = ap (λ t. if t then None else Some stop) before
    by false e = cc

-- one whose calls are all made ends before the stop, where a call that is to fail comes before it
pub made_before : (stop calls : ℕ) (fault : Option ℕ) → is_before stop fault ≡ true → among calls fault ≡ None → calls < stop
made_before stop calls None before none = absurd cc
made_before stop calls (Some n) before none = by (nat_le n calls) refl none
  where
    by : (b : Bool) → nat_le n calls ≡ b → (if b then Some n else None) ≡ None → calls < stop
    by true is e = absurd (cc e)
    by false is e = grind (arith, nat_tests, is, before)

-- ---- the configuration is left
left_config : (h : Held Stage) → IsSimulated h → (stop : ℕ) (image : Image) → (left_unsynced h stop image).state.config ≡ h.state.config
left_config h is stop image = ap (λ (s : Stage). s.config) (unsynced_left_is h stop image) ∙ config_chosen h is (is_kept_in stop image h.unsynced)

pub config_left : (h : Held Stage) → IsSimulated h → (clock : ℕ) (i : Input) (stop : Stop) → (left_stopped h clock i stop).state.config ≡ h.state.config
config_left h is clock i stop = by (not h.ready && nat_le stop.call 2)
  where
    by : (early : Bool) → (if early then left_unsynced h stop.call stop.image else left_behind h clock i (stop.call - length (syncs h.ready)) stop.image).state.config ≡ h.state.config
    by true = left_config h is stop.call stop.image
    by false = cut_config (keeps_step (stop.call - length (syncs h.ready)) stop.image) h.state clock i

caught_config : (s : Standing) (unsure : Option HostStep) (stood : Bool) → (caught after s unsure stood).config ≡ s.config
caught_config s None stood = refl
caught_config s (Some step) true = refl
caught_config s (Some step) false = refl

-- what a host holds unsynced has its configuration
pub simulated_is : (s : SimulatedState Seen HostStep) → IsSimulated (staged (held (λ (m : Seen). m.standing) after s))
simulated_is s l e = by s.unsynced e
  where
    by : (o : Option Bool) → option_map staged_unsynced (held_of (λ (m : Seen). m.standing) after s.keep o).unsynced ≡ Some l → l.state.config ≡ (caught after s.keep.machine.standing s.keep.unsure (has_record s.keep.journal.pending (stored seen_on s.keep.journal))).config
    by None f = cc
    by (Some second) f =
        let same : stage_of s.keep.machine.standing ≡ l.state = cc in
        sym (ap (λ (x : Stage). x.config) same) ∙ sym (caught_config s.keep.machine.standing s.keep.unsure (has_record s.keep.journal.pending (stored seen_on s.keep.journal)))
