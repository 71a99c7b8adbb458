-- What a step makes of a kept host is what the definition of its host says: the bytes of its record and of its snapshot are theirs.
use Rattle.std.specs.Prelude.{◌⊎◌, ◌-◌, ◌==◌, ◌&&◌, ◌<◌, ◌≤◌, ◌^◌, IfSome, nat_le, nat_lt, not, option_map, take, if◌then◌else◌}
use Rattle.std.proofs.Common.{◌≡◌, ◌∙◌, ◌∷◌, ◌+◌, ap, arith, inl, inr, refl, subst, sym, Bool, false, true, List, [], length, None, Option, Some, ℕ}
use Rattle.std.proofs.lemmas.Bool.{cases_lt}
use Rattle.std.proofs.lemmas.Bool.Decides.{nat_tests}
use Rattle.std.proofs.lemmas.List.{length-map}
use Rattle.host_book.specs.Ready.{changes_of}
use Rattle.host_book.specs.declared.ready.Ready.{Ready}
use Rattle.host_codec.specs.Books.{book}
use Rattle.value_bytes.specs.Changes.{changes}
use Rattle.host_keep.specs.Laws.{book_answered, config_answered}
use Rattle.host_keep.specs.Standing.{Answers, Follows, Standing, StandsNow, after, changes_in}
use Rattle.host_keep.specs.declared.call.HostCall.{HostCall}
use Rattle.host_keep.specs.declared.call.HostStep.{HostStep}
use Rattle.host_model.specs.Book.{Book}
use Rattle.host_model.specs.Step.{step_changes, step_reply}
use Rattle.host_model.specs.declared.change.Change.{Change}
use Rattle.host_model.specs.declared.change.Changes.{Changes}
use Rattle.host_model.specs.declared.reply.Reply.{Reply}
use Rattle.machine_keep.specs.Course.{IsSnapshotOf}
use Rattle.machine_keep.specs.Kept.{after_step}
use Rattle.simulated_machine.specs.Held.{Held, Unsynced, Place, calls_of, fault_at, is_many_at, on_first, on_second, place_after, schedule, syncs, with_record, with_snapshot}
use Rattle.simulated_machine.specs.AfterStep.{Broken, Done, HasSnapshot, IsBeyond, SyncFailed, bytes_in, unsynced_broken, unsynced_still, place_broken, state_broken}
use Rattle.world_law.specs.World.{Stage}
use Rattle.rehearsal_model.specs.Simulated.{Written, among, answered, broken_with, bytes_of, calls_for, can_snap, done_with, fault_in, faulted, record_by, record_length, recorded_by, reply_unless, snapped_by, snapshot_length, stepped, stepped_by, unless_none, sync_failed, written_at}
use Rattle.rehearsal_model.specs.Seen.{acted}
use Rattle.simulated_host.specs.Staged.{staged_unsynced, stage_of, staged}

-- the bytes of a step's record
abbrev pub bytes_kept : HostStep → List ℕ
bytes_kept t = t.record.items

abbrev pub size_kept : HostStep → ℕ
size_kept t = length t.record.items

-- ---- records
unless_some : (cs : List Change) (n : ℕ) → 0 < length cs → unless_none cs n ≡ Some n
unless_some [] n some = absurd (omega (arith, some))
unless_some (c ∷ cs) n some = refl

record_of_step : (step : HostStep) → 0 < length step.list → step.record.items ≡ changes.code (changes_in step) → Some (size_kept step) ≡ record_by (changes_in step)
unfolding record_length
record_of_step step some code =
    let many : length (changes_of step.list) ≡ length step.list = length-map step.list (λ (r : Ready). r.change) in
    sym (unless_some (changes_of step.list) (length (changes.code (changes_in step))) (omega (arith, many, some)) ∙ ap (λ (bytes : List ℕ). Some (length bytes)) (sym code))

none_recorded : (c : Changes) → c.list ≡ [] → None ≡ record_by c
none_recorded c is = ap (λ (cs : List Change). unless_none cs (record_length c)) (sym is)

pub bytes_recorded : (s : Standing) (call : HostCall) (reply : Reply) (step : Option HostStep) → Answers s call reply step → IfSome step (λ t. Follows s t) → option_map size_kept step ≡ recorded_by (stage_of s) call.clock call.input
bytes_recorded s call reply None answers may = none_recorded (step_changes s.config s.book call.clock call.input) answers.step
bytes_recorded s call reply (Some step) answers may = record_of_step step answers.step.1 may.code ∙ ap record_by answers.step.0

-- ---- snapshots
pub snapshot_is : (s : Standing) (image : List ℕ) → StandsNow (image ∷ []) s → length image ≡ snapshot_length s.book
unfolding snapshot_length
snapshot_is s image stands = ap length stands.is.1 ∙ ap (λ (b : Book). length (book.code b)) stands.leads

can_be : (p : Place) (bytes : ℕ) → bytes < 2 ^ 32 → p.generation + 1 < 2 ^ 64 → can_snap p bytes ≡ true
can_be p bytes low next = grind (arith, nat_tests)

-- where one is made
pub snapped_some : (s : Standing) (p : Place) (bytes : ℕ) (image : List ℕ) → is_many_at p bytes ≡ true → IsSnapshotOf StandsNow s p.generation image → Some (length image) ≡ snapped_by p s.book (Some bytes)
snapped_some s p bytes image many made =
    let size = snapshot_is s image made.0 in
    let can : can_snap p (snapshot_length s.book) ≡ true = subst (λ (n : ℕ). can_snap p n ≡ true) size (can_be p (length image) made.1 made.2) in
    ap Some size ∙ sym (ap (λ (b : Bool). if b && can_snap p (snapshot_length s.book) then Some (snapshot_length s.book) else None) many
    ∙ ap (λ (b : Bool). if b then Some (snapshot_length s.book) else None) can)

-- where the records aren't many
pub snapped_few : (b : Book) (p : Place) (bytes : ℕ) → is_many_at p bytes ≡ false → None ≡ snapped_by p b (Some bytes)
snapped_few b p bytes few = sym (ap (λ (t : Bool). if t && can_snap p (snapshot_length b) then Some (snapshot_length b) else None) few)

pub bytes_snapped : (s : Standing) (p : Place) (step : Option HostStep) (snapshot : Option (List ℕ)) → HasSnapshot StandsNow s p (option_map bytes_kept step) snapshot → option_map length snapshot ≡ snapped_by p s.book (option_map size_kept step)
bytes_snapped s p None snapshot due = ap (λ (o : Option (List ℕ)). option_map length o) due
bytes_snapped s p (Some step) None due = snapped_few s.book p (size_kept step) due
bytes_snapped s p (Some step) (Some image) due = snapped_some s p (size_kept step) image due.0 due.1

-- ---- the state after a step
pub state_after : (s : Standing) (call : HostCall) (reply : Reply) (step : Option HostStep) → Answers s call reply step → stage_of (after_step after s step) ≡ acted (stage_of s) call.clock call.input
state_after s call reply step answers =
    ap (λ c. record { config = c; book = (after_step after s step).book }) (config_answered s step)
    ∙ ap (λ b. record { config = s.config; book = b }) (book_answered s call reply step answers)

-- ---- calls
calls_same : (ready : Bool) (step : Option HostStep) (snapshot : Option (List ℕ)) → calls_of ready (option_map size_kept step) (option_map length snapshot) ≡ calls_of ready step snapshot
calls_same ready None snapshot = refl
calls_same ready (Some step) None = refl
calls_same ready (Some step) (Some image) = refl

none_among : (calls : ℕ) (fault : Option ℕ) → IsBeyond calls fault → among calls fault ≡ None
none_among calls None beyond = refl
none_among calls (Some n) beyond = let test : nat_le n calls ≡ false = grind (arith, nat_tests, beyond) in ap (λ (b : Bool). if b then Some n else None) test

one_among : (calls n : ℕ) → n ≤ calls → among calls (Some n) ≡ Some n
one_among calls n le = let test : nat_le n calls ≡ true = grind (arith, nat_tests, le) in ap (λ (b : Bool). if b then Some n else None) test

-- what a fault leaves, seen of stages
still_unsynced : (number : ℕ) (l : Option (Unsynced Standing)) → option_map staged_unsynced (unsynced_still number l) ≡ unsynced_still number (option_map staged_unsynced l)
still_unsynced number None = refl
still_unsynced number (Some l) = by (nat_lt 1 number) l.second
  where
    by : (late second : Bool) → option_map staged_unsynced (if late then (if second then Some l else None) else Some l) ≡ (if late then (if second then Some (staged_unsynced l) else None) else Some (staged_unsynced l))
    by true true = refl
    by true false = refl
    by false second = refl

state_staged : (number : ℕ) (before later : Standing) → stage_of (state_broken number before later) ≡ state_broken number (stage_of before) (stage_of later)
state_staged number before later = by (nat_lt 3 number)
  where
    by : (b : Bool) → stage_of (if b then later else before) ≡ (if b then stage_of later else stage_of before)
    by true = refl
    by false = refl

unsynced_staged : (number : ℕ) (p : Place) (before later : Standing) (bytes : ℕ) → option_map staged_unsynced (unsynced_broken number p before later bytes) ≡ unsynced_broken number p (stage_of before) (stage_of later) bytes
unsynced_staged number p before later bytes = by (number == 4) (number == 11)
  where
    by : (fourth last : Bool) → option_map staged_unsynced (if fourth then Some (record { second = p.second; state = before; place = p }) else (if last then Some (record { second = not p.second; state = later; place = with_record p bytes }) else None))
        ≡ (if fourth then Some (record { second = p.second; state = stage_of before; place = p }) else (if last then Some (record { second = not p.second; state = stage_of later; place = with_record p bytes }) else None))
    by true last = refl
    by false true = refl
    by false false = refl

-- the bytes of a snapshot count behind its tenth call alone
place_by : (number : ℕ) (p : Place) (r s t : ℕ) → (10 < number → s ≡ t) → place_broken number p r s ≡ place_broken number p r t
place_by number p r s t same = by (nat_lt 10 number) refl
  where
    by : (b : Bool) → nat_lt 10 number ≡ b → (if b then with_snapshot p s else (if nat_lt 3 number then with_record p r else p)) ≡ (if b then with_snapshot p t else (if nat_lt 3 number then with_record p r else p))
    by true is = ap (with_snapshot p) (same (grind (arith, nat_tests, is)))
    by false is = refl

-- how many calls are made at least
pub syncs_counted : (ready : Bool) (r s : Option ℕ) → length (syncs ready) ≤ calls_of ready r s
syncs_counted ready None s = omega arith
syncs_counted ready (Some n) None = omega arith
syncs_counted ready (Some n) (Some m) = omega arith

four_counted : (ready : Bool) (n : ℕ) (s : Option ℕ) → length (syncs ready) + 4 ≤ calls_of ready (Some n) s
four_counted ready n None = omega arith
four_counted ready n (Some m) = omega arith

module _ (old : Held Standing) (call : HostCall) where
  abbrev pub h : Held Stage
  h = staged old

  abbrev pub w : Written
  w = written_at h call.clock call.input

  abbrev later : Stage
  later = acted h.state call.clock call.input

  abbrev front : ℕ → List Bool
  front n = take n (schedule old)

  -- ---- what is written
  module _ (reply : Reply) (step : Option HostStep) (answers : Answers old.state call reply step) (may : IfSome step (λ t. Follows old.state t)) where
    pub record_is : option_map size_kept step ≡ w.record_bytes
    record_is = bytes_recorded old.state call reply step answers may

    pub later_is : stage_of (after_step after old.state step) ≡ later
    later_is = state_after old.state call reply step answers

    pub snapped_is : snapped_by old.place (after_step after old.state step).book (option_map size_kept step) ≡ w.snapshot_bytes
    snapped_is =
        ap (λ (b : Stage). snapped_by old.place b.book (option_map size_kept step)) later_is
        ∙ ap (λ (o : Option ℕ). snapped_by old.place later.book o) record_is

    pub reply_is : reply ≡ step_reply h.state.config h.state.book call.clock call.input
    reply_is = answers.reply

  -- ---- a step that was answered
  module _ (new : Held Standing) (reply : Reply) (is : Done StandsNow bytes_kept Answers Follows after old new call reply) where
    abbrev wrote : Written
    wrote = record { record_bytes = option_map size_kept is.step; snapshot_bytes = option_map length is.snapshot }

    wrote_is : wrote ≡ w
    wrote_is =
        ap (λ (o : Option ℕ). record { record_bytes = o; snapshot_bytes = option_map length is.snapshot }) (record_is reply is.step is.answered is.may)
        ∙ ap (λ (o : Option ℕ). record { record_bytes = w.record_bytes; snapshot_bytes = o })
        (bytes_snapped (after_step after old.state is.step) old.place is.step is.snapshot is.due ∙ snapped_is reply is.step is.answered is.may)

    calls_are : calls_of old.ready is.step is.snapshot ≡ calls_for h w
    calls_are = sym (calls_same old.ready is.step is.snapshot) ∙ ap (calls_for h) wrote_is

    pub none_fails : fault_in h call.clock call.input ≡ None
    none_fails = none_among (calls_for h w) (fault_at h) (subst (λ (n : ℕ). IsBeyond n (fault_at old)) calls_are is.clear)

    made_with : (n : ℕ) → n ≡ calls_for h w → (s : Stage) → s ≡ later → (v : Written) → v ≡ w
        → record {
          state = s;
          place = place_after old.place v.record_bytes v.snapshot_bytes;
          ready = true;
          unsynced = None;
          first = old.first - on_first (front n);
          second = old.second - on_second (front n);
        } ≡ done_with h later w
    made_with n a s b v c =
        ap (λ (x : ℕ). record { state = s; place = place_after old.place v.record_bytes v.snapshot_bytes; ready = true; unsynced = None; first = old.first - on_first (front x); second = old.second - on_second (front x) }) a
        ∙ (ap (λ (x : Stage). record { state = x; place = place_after old.place v.record_bytes v.snapshot_bytes; ready = true; unsynced = None; first = old.first - on_first (front (calls_for h w)); second = old.second - on_second (front (calls_for h w)) }) b
        ∙ ap (λ (x : Written). record { state = later; place = place_after old.place x.record_bytes x.snapshot_bytes; ready = true; unsynced = None; first = old.first - on_first (front (calls_for h w)); second = old.second - on_second (front (calls_for h w)) }) c)

    pub done_so : staged new ≡ stepped h call.clock call.input
    done_so =
        ap staged is.became
        ∙ (made_with (calls_of old.ready is.step is.snapshot) calls_are (stage_of (after_step after old.state is.step)) (later_is reply is.step is.answered is.may) wrote wrote_is
        ∙ ap (stepped_by h call.clock call.input) (sym none_fails))

    pub replied_so : Some reply ≡ answered h call.clock call.input
    replied_so = ap Some (reply_is reply is.step is.answered is.may) ∙ ap (λ (o : Option ℕ). reply_unless o (step_reply h.state.config h.state.book call.clock call.input)) (sym none_fails)

  -- ---- one that met a fault
  module _ (number : ℕ) (fails : fault_in h call.clock call.input ≡ Some number) where
    fails_so : stepped h call.clock call.input ≡ faulted h call.clock call.input number
    fails_so = ap (stepped_by h call.clock call.input) fails

    nothing_said : None ≡ answered h call.clock call.input
    nothing_said = ap (λ (o : Option ℕ). reply_unless o (step_reply h.state.config h.state.book call.clock call.input)) (sym fails)

  -- a sync failed
  module _ (new : Held Standing) (is : SyncFailed old new) where
    early_call : is.number ≤ calls_for h w
    early_call =
        let two : length (syncs old.ready) ≡ 2 = ap (λ (b : Bool). length (syncs b)) is.unready in
        omega (arith, is.most, two, syncs_counted old.ready w.record_bytes w.snapshot_bytes)

    unsynced_fails : fault_in h call.clock call.input ≡ Some is.number
    unsynced_fails = ap (among (calls_for h w)) is.place ∙ one_among (calls_for h w) is.number early_call

    no_step : nat_lt (length (syncs old.ready)) is.number ≡ false
    no_step = let two : length (syncs old.ready) ≡ 2 = ap (λ (b : Bool). length (syncs b)) is.unready in let most = is.most in grind (arith, nat_tests, two, most)

    sync_failed_so : staged new ≡ stepped h call.clock call.input
    sync_failed_so =
        ap staged is.became
        ∙ (ap (λ (l : Option (Unsynced Stage)). record { state = h.state; place = h.place; ready = false; unsynced = l; first = 0; second = 0 }) (still_unsynced is.number old.unsynced)
        ∙ (sym (ap (λ (b : Bool). if b then broken_with h (is.number - length (syncs h.ready)) later w else sync_failed h is.number) no_step)
        ∙ sym (fails_so is.number unsynced_fails)))

    sync_failed_silent : None ≡ answered h call.clock call.input
    sync_failed_silent = nothing_said is.number unsynced_fails

  -- a call behind the syncs failed
  module _ (new : Held Standing) (is : Broken StandsNow bytes_kept Answers Follows after old new call) where
    abbrev syncs_made : ℕ
    syncs_made = length (syncs old.ready)

    recorded_one : Some (size_kept is.step) ≡ w.record_bytes
    recorded_one = record_is is.reply (Some is.step) is.answered is.may

    later_one : stage_of (after old.state is.step) ≡ later
    later_one = later_is is.reply (Some is.step) is.answered is.may

    -- the snapshot that is due
    snapped_one : 4 < is.number → Some (bytes_in is.snapshot) ≡ w.snapshot_bytes
    snapped_one behind =
        let due = is.due behind in
        ap (λ (o : Option (List ℕ)). Some (bytes_in o)) due.1.1
        ∙ (snapped_some (after old.state is.step) old.place (size_kept is.step) due.1.0 due.0 due.1.2
        ∙ snapped_is is.reply (Some is.step) is.answered is.may)

    enough : syncs_made + is.number ≤ calls_for h w
    enough = elim (cases_lt 4 is.number) [
      | inr low ↦ omega (arith, low, subst (λ (o : Option ℕ). syncs_made + 4 ≤ calls_of old.ready o w.snapshot_bytes) recorded_one (four_counted old.ready (size_kept is.step) w.snapshot_bytes))
      | inl high ↦ (
          let all : syncs_made + 11 ≤ calls_of old.ready w.record_bytes w.snapshot_bytes =
          subst (λ (o : Option ℕ). syncs_made + 11 ≤ calls_of old.ready o w.snapshot_bytes) recorded_one
          (subst (λ (o : Option ℕ). syncs_made + 11 ≤ calls_of old.ready (Some (size_kept is.step)) o) (snapped_one high) (omega arith)) in
          omega (arith, all, is.most))
    ]

    broken_fails : fault_in h call.clock call.input ≡ Some (syncs_made + is.number)
    broken_fails = ap (among (calls_for h w)) is.place ∙ one_among (calls_for h w) (syncs_made + is.number) enough

    is_step : nat_lt (length (syncs h.ready)) (syncs_made + is.number) ≡ true
    is_step = let least = is.least in grind (arith, nat_tests, least)

    same_number : syncs_made + is.number - length (syncs h.ready) ≡ is.number
    same_number = omega arith

    same_bytes : size_kept is.step ≡ bytes_of w.record_bytes
    same_bytes = ap bytes_of recorded_one

    same_place : place_broken is.number old.place (size_kept is.step) (bytes_in is.snapshot) ≡ place_broken is.number old.place (bytes_of w.record_bytes) (bytes_of w.snapshot_bytes)
    same_place =
        ap (λ (n : ℕ). place_broken is.number old.place n (bytes_in is.snapshot)) same_bytes
        ∙ place_by is.number old.place (bytes_of w.record_bytes) (bytes_in is.snapshot) (bytes_of w.snapshot_bytes) (λ high. ap bytes_of (snapped_one (omega (arith, high))))

    broken_as : (s : Stage) → s ≡ later
        → record { state = state_broken is.number h.state s; place = place_broken is.number h.place (bytes_of w.record_bytes) (bytes_of w.snapshot_bytes); ready = false; unsynced = unsynced_broken is.number h.place h.state s (bytes_of w.record_bytes); first = 0; second = 0 }
        ≡ broken_with h is.number later w
    broken_as s same = ap (λ (x : Stage). record { state = state_broken is.number h.state x; place = place_broken is.number h.place (bytes_of w.record_bytes) (bytes_of w.snapshot_bytes); ready = false; unsynced = unsynced_broken is.number h.place h.state x (bytes_of w.record_bytes); first = 0; second = 0 }) same

    staged_broken : staged new ≡ broken_with h is.number later w
    staged_broken =
        ap staged is.became
        ∙ (ap (λ (x : Stage). record { state = x; place = place_broken is.number old.place (size_kept is.step) (bytes_in is.snapshot); ready = false; unsynced = option_map staged_unsynced (unsynced_broken is.number old.place old.state (after old.state is.step) (size_kept is.step)); first = 0; second = 0 })
        (state_staged is.number old.state (after old.state is.step))
        ∙ (ap (λ (x : Option (Unsynced Stage)). record { state = state_broken is.number h.state (stage_of (after old.state is.step)); place = place_broken is.number old.place (size_kept is.step) (bytes_in is.snapshot); ready = false; unsynced = x; first = 0; second = 0 })
        (unsynced_staged is.number old.place old.state (after old.state is.step) (size_kept is.step) ∙ ap (unsynced_broken is.number h.place h.state (stage_of (after old.state is.step))) same_bytes)
        ∙ (ap (λ (x : Place). record { state = state_broken is.number h.state (stage_of (after old.state is.step)); place = x; ready = false; unsynced = unsynced_broken is.number h.place h.state (stage_of (after old.state is.step)) (bytes_of w.record_bytes); first = 0; second = 0 }) same_place
        ∙ broken_as (stage_of (after old.state is.step)) later_one)))

    broken_so : staged new ≡ stepped h call.clock call.input
    broken_so =
        staged_broken
        ∙ (sym (ap (λ (b : Bool). if b then broken_with h (syncs_made + is.number - length (syncs h.ready)) later w else sync_failed h (syncs_made + is.number)) is_step
        ∙ ap (λ (n : ℕ). broken_with h n later w) same_number)
        ∙ sym (fails_so (syncs_made + is.number) broken_fails))

    broken_silent : None ≡ answered h call.clock call.input
    broken_silent = nothing_said (syncs_made + is.number) broken_fails

  -- either
  pub faulted_so : (new : Held Standing) → SyncFailed old new ⊎ Broken StandsNow bytes_kept Answers Follows after old new call → (staged new ≡ stepped h call.clock call.input) × (None ≡ answered h call.clock call.input)
  faulted_so new is = elim is [
    | inl sync_failed ↦ (sync_failed_so new sync_failed, sync_failed_silent new sync_failed)
    | inr broken ↦ (broken_so new broken, broken_silent new broken)
  ]
