-- What calls in a row leave of a disk in memory, and why its count of faults rose.
use Rattle.std.proofs.Common.{suc, zero, ◌≡◌, ◌⊎◌, inl, inr, ⊎_elim, ℕ, ◌-◌, ◌^◌, ◌<◌, ◌≤◌, ◌==◌, Bool, true, false, not, ◌||◌, if◌then◌else◌, List, [], ◌∷◌, length, drop, map, refl, sym, ◌∙◌, ap, subst, arith, append_assoc, append-nil}
use Rattle.std.specs.Prelude.{Result, Ok, Err}
use Rattle.std.specs.List.{list_any}
use Rattle.std.proofs.Math.Seq.{drop-append_seam}
use Rattle.std.proofs.lemmas.Bool.{eqb-true}
use Rattle.ps_ports.specs.Causes.{Rose, counted, raised}
use Rattle.ps_ports.specs.Memory.{called, fails_next}
use Rattle.ps_disks.specs.MemoryDisk.{DiskState, Makes, after_made, after_starved, ends_too_far, fails_call}
use Rattle.ps_disks.specs.Run.{IsAfter, IsArmed, IsNext, IsRun, IsSpared, MeetsFault, Went, after_one_read, faults_after, has_too_far, made_since, noted}
use Rattle.ps_disks.specs.declared.disk.DiskCall.{DiskCall}
use Rattle.ps_disks.specs.declared.history.LoggedCall.{LoggedCall}

-- ---- one call
pub calls_advance_once : (old new : DiskState) → IsNext old new → Went old new
calls_advance_once old new is = record { states = new ∷ []; run = (is, refl) }

pub calls_advance_read : (s old new : DiskState) (fails : Bool) → s ≡ old → fails ≡ fails_next s.calls
    → new ≡ record { history = s.history; calls = called s.calls; until_fault = s.until_fault; faults = if fails then raised s.faults else s.faults; starved = s.starved } → Went old new
calls_advance_read s old new fails is to_fail after =
    subst (λ o. Went o new) is
    (calls_advance_once s new (inl (after ∙ ap (λ b. record { history = s.history; calls = called s.calls; until_fault = s.until_fault; faults = if b then raised s.faults else s.faults; starved = s.starved }) to_fail)))

pub calls_advance_made : {E : Type 0} (call : DiskCall) (old new : DiskState) (result : Result (Unit {0}) E) → Makes call old new result → Went old new
calls_advance_made call old new (Ok u) makes = calls_advance_once old new (inr (inl (call, makes.1 ∙ ap (λ b. after_made old call (not b)) (sym makes.0))))
calls_advance_made call old new (Err e) (inl failed) = calls_advance_once old new (inr (inl (call, failed.1 ∙ ap (λ b. after_made old call (not b)) (sym failed.0))))
calls_advance_made call old new (Err e) (inr starved) = calls_advance_once old new (inr (inr starved))

pub calls_advance_starved : (old new : DiskState) → new ≡ after_starved old → Went old new
calls_advance_starved old new starved = calls_advance_once old new (inr (inr starved))

-- ---- of any calls
-- memory that ran out once stays told
stays_starved : (old new : DiskState) (states : List DiskState) → IsRun old states new → old.starved ≡ true → new.starved ≡ true
stays_starved old new [] same is = ap (λ s. s.starved) same ∙ is
stays_starved old new (s ∷ states) (inl read, run) is = stays_starved s new states run (ap (λ d. d.starved) read ∙ is)
stays_starved old new (s ∷ states) (inr (inl made), run) is = stays_starved s new states run (ap (λ d. d.starved) made.1 ∙ is)
stays_starved old new (s ∷ states) (inr (inr starves), run) is = stays_starved s new states run (ap (λ d. d.starved) starves)

-- a call raises the count by one at most
raised_or_not : (b : Bool) (faults : ℕ) → faults < 2 ^ 64 → (faults ≤ (if b then raised faults else faults)) × ((if b then raised faults else faults) < 2 ^ 64)
raised_or_not true faults few = (omega (arith, few), omega arith)
raised_or_not false faults few = (omega arith, few)

not_or_raised : (b : Bool) (faults : ℕ) → faults < 2 ^ 64 → (faults ≤ (if b then faults else raised faults)) × ((if b then faults else raised faults) < 2 ^ 64)
not_or_raised true faults few = (omega arith, few)
not_or_raised false faults few = (omega (arith, few), omega arith)

one_call : (old s : DiskState) → IsNext old s → old.faults < 2 ^ 64 → (old.faults ≤ s.faults) × (s.faults < 2 ^ 64)
one_call old s (inl read) few = subst (λ n. (old.faults ≤ n) × (n < 2 ^ 64)) (sym (ap (λ d. d.faults) read)) (raised_or_not (fails_next old.calls) old.faults few)
one_call old s (inr (inl made)) few = subst (λ n. (old.faults ≤ n) × (n < 2 ^ 64)) (sym (ap (λ d. d.faults) made.1)) (not_or_raised (not (fails_call old made.0)) old.faults few)
one_call old s (inr (inr starves)) few = subst (λ n. (old.faults ≤ n) × (n < 2 ^ 64)) (sym (ap (λ d. d.faults) starves)) (raised_or_not true old.faults few)

-- the count never falls
never_falls : (old new : DiskState) (states : List DiskState) → IsRun old states new → old.faults < 2 ^ 64 → old.faults ≤ new.faults
never_falls old new [] same few = omega (arith, ap (λ s. s.faults) same)
never_falls old new (s ∷ states) run few =
    let one = one_call old s run.0 few in
    omega (arith, one.0, never_falls s new states run.1 one.1)

-- where memory ran out it rose
raised_on : (a b c : ℕ) → a ≤ b → raised b ≤ c → raised a ≤ c
raised_on a b c less up = omega (arith, less, up)

starving_counts : (old new : DiskState) (states : List DiskState) → IsRun old states new → old.faults < 2 ^ 64 → old.starved ≡ false → new.starved ≡ true → raised old.faults ≤ new.faults
starving_counts old new [] same few fed starved = absurd (cc (ap (λ s. s.starved) same, fed, starved))
starving_counts old new (s ∷ states) (inl read, run) few fed starved =
    let one = one_call old s (inl read) few in
    raised_on old.faults s.faults new.faults one.0 (starving_counts s new states run one.1 (ap (λ d. d.starved) read ∙ fed) starved)
starving_counts old new (s ∷ states) (inr (inl made), run) few fed starved =
    let one = one_call old s (inr (inl made)) few in
    raised_on old.faults s.faults new.faults one.0 (starving_counts s new states run one.1 (ap (λ d. d.starved) made.1 ∙ fed) starved)
starving_counts old new (s ∷ states) (inr (inr starves), run) few fed starved =
    let is : s.faults ≡ raised old.faults = ap (λ d. d.faults) starves in
    omega (arith, is, never_falls s new states run (omega (arith, is)))

-- ---- the calls as they are noted
noted_calls : (call : ℕ) (calls : List DiskCall) → map (λ l. l.call) (noted call calls) ≡ calls
noted_calls call [] = refl
noted_calls call (c ∷ cs) = ap (λ l. c ∷ l) (noted_calls (call - 1) cs)

abbrev failed_in : List LoggedCall → Bool
failed_in log = list_any (λ l. not l.done) log

abbrev IsAhead : ℕ → List DiskCall → Type 0
IsAhead call calls = (call ≡ 0) ⊎ (length calls < call)

abbrev IsReached : ℕ → List DiskCall → Type 0
IsReached call calls = (1 ≤ call) × (call ≤ length calls)

none_failed : (faults : ℕ) (log : List LoggedCall) → failed_in log ≡ false → faults_after faults log ≡ faults
none_failed faults [] none = refl
none_failed faults (l ∷ log) none = at l.done refl none (none_failed faults log)
  where
    at : (b : Bool) → l.done ≡ b → (not b || failed_in log) ≡ false → (failed_in log ≡ false → faults_after faults log ≡ faults) → faults_after faults (l ∷ log) ≡ faults
    at true is none rest = ap (λ b. faults_after (if b then faults else raised faults) log) is ∙ rest none
    at false is none rest = absurd (cc none)

never_less : (faults : ℕ) (log : List LoggedCall) → faults < 2 ^ 64 → faults ≤ faults_after faults log
never_less faults [] few = omega arith
never_less faults (l ∷ log) few =
    let one = not_or_raised l.done faults few in
    omega (arith, one.0, never_less (if l.done then faults else raised faults) log one.1)

some_failed : (faults : ℕ) (log : List LoggedCall) → faults < 2 ^ 64 → failed_in log ≡ true → raised faults ≤ faults_after faults log
some_failed faults [] few some = absurd (cc some)
some_failed faults (l ∷ log) few some = at l.done refl some (some_failed faults log few)
  where
    at : (b : Bool) → l.done ≡ b → (not b || failed_in log) ≡ true → (failed_in log ≡ true → raised faults ≤ faults_after faults log) → raised faults ≤ faults_after faults (l ∷ log)
    at true is some rest = subst (λ b. raised faults ≤ faults_after (if b then faults else raised faults) log) (sym is) (rest some)
    at false is some rest = subst (λ b. raised faults ≤ faults_after (if b then faults else raised faults) log) (sym is) (never_less (raised faults) log (omega arith))

done_parts : (one far rest : Bool) → (not (not (one || far)) || rest) ≡ false → (one ≡ false) × (far ≡ false) × (rest ≡ false)
done_parts true far rest none = absurd (cc none)
done_parts false true rest none = absurd (cc none)
done_parts false false rest none = (refl, refl, none)

failed_parts : (one far rest : Bool) → (not (not (one || far)) || rest) ≡ true → (one ≡ true) ⊎ ((far ≡ true) ⊎ (rest ≡ true))
failed_parts true far rest some = inl refl
failed_parts false true rest some = inr (inl refl)
failed_parts false false rest some = inr (inr some)

or_right : (a b : Bool) → b ≡ true → (a || b) ≡ true
or_right true b is = refl
or_right false b is = is

not_one : (call : ℕ) → (call == 1) ≡ false → call ≡ 1 → ⊥
not_one call is one = cc (is, ap (λ (n : ℕ). n == 1) one)

one_nearer : (call : ℕ) (c : DiskCall) (cs : List DiskCall) → (call == 1) ≡ false → IsAhead (call - 1) cs → IsAhead call (c ∷ cs)
one_nearer call c cs differs (inl none) = inl (omega (arith, none, not_one call differs))
one_nearer call c cs differs (inr ahead) = inr (omega (arith, ahead))

-- all were done: none of them is the one that is to fail, and none ends too far
all_done : (call : ℕ) (calls : List DiskCall) → failed_in (noted call calls) ≡ false → IsAhead call calls × (has_too_far calls ≡ false)
all_done zero [] none = (inl refl, refl)
all_done (suc n) [] none = (inr (omega arith), refl)
all_done call (c ∷ cs) none =
    let parts = done_parts (call == 1) (ends_too_far c) (failed_in (noted (call - 1) cs)) none in
    let rest = all_done (call - 1) cs parts.2 in
    (one_nearer call c cs parts.0 rest.0, ap (λ b. b || has_too_far cs) parts.1 ∙ rest.1)

one_failed : (call : ℕ) (c : DiskCall) (cs : List DiskCall) → ((call == 1) ≡ true) ⊎ ((ends_too_far c ≡ true) ⊎ (IsReached (call - 1) cs ⊎ (has_too_far cs ≡ true))) → IsReached call (c ∷ cs) ⊎ (has_too_far (c ∷ cs) ≡ true)
one_failed call c cs (inl one) = let is : call ≡ 1 = eqb-true call 1 one in inl (omega (arith, is), omega (arith, is))
one_failed call c cs (inr (inl far)) = inr (ap (λ b. b || has_too_far cs) far)
one_failed call c cs (inr (inr (inl reached))) = inl (omega (arith, reached.0), omega (arith, reached.0, reached.1))
one_failed call c cs (inr (inr (inr far))) = inr (or_right (ends_too_far c) (has_too_far cs) far)

-- one failed: it is that one, or one ends too far
one_of_them : (call : ℕ) (calls : List DiskCall) → failed_in (noted call calls) ≡ true → IsReached call calls ⊎ (has_too_far calls ≡ true)
one_of_them call [] some = absurd (cc some)
one_of_them call (c ∷ cs) some =
    one_failed call c cs (⊎_elim (λ one. inl one) (⊎_elim (λ far. inr (inl far)) (λ rest. inr (inr (one_of_them (call - 1) cs rest)))) (failed_parts (call == 1) (ends_too_far c) (failed_in (noted (call - 1) cs)) some))

-- ---- a disk of which no read is to fail, and for which there was memory
none_fails : (s : DiskState) → s.calls.failing ≡ [] → fails_next s.calls ≡ false
none_fails s none = ap (list_any (λ n. n == raised s.calls.made)) none

before_read : (old new : DiskState) (calls : List DiskCall) → fails_next old.calls ≡ false → IsAfter (after_one_read old) new calls → IsAfter old new calls
before_read old new calls spares h = record {
  start = h.start;
  log = h.log;
  until = h.until;
  faults = subst (λ b. new.faults ≡ faults_after (if b then raised old.faults else old.faults) (noted old.until_fault calls)) spares h.faults;
  reads = h.reads;
}

before_call : (old new : DiskState) (c : DiskCall) (calls : List DiskCall) → fails_next old.calls ≡ false → IsAfter (after_made old c (not (fails_call old c))) new calls → IsAfter old new (c ∷ calls)
before_call old new c calls spares made =
    let done = not ((old.until_fault == 1) || ends_too_far c) in
    let h : IsAfter (after_made old c done) new calls = subst (λ b. IsAfter (after_made old c b) new calls) (ap (λ b. not ((b || (old.until_fault == 1)) || ends_too_far c)) spares) made in
    record {
      start = h.start;
      log = h.log ∙ append_assoc old.history.log (record { call = c; done = done } ∷ []) (noted (old.until_fault - 1) calls);
      until = omega (arith, h.until);
      faults = h.faults;
      reads = h.reads;
    }

after_run : (old new : DiskState) (states : List DiskState) → IsRun old states new → old.calls.failing ≡ [] → new.starved ≡ false → (calls : List DiskCall) × IsAfter old new calls
after_run old new [] same none fed = (
  [],
  record {
    start = ap (λ s. s.history.start) same;
    log = ap (λ s. s.history.log) same ∙ sym (append-nil old.history.log);
    until = omega (arith, ap (λ s. s.until_fault) same);
    faults = ap (λ s. s.faults) same;
    reads = ap (λ s. s.calls.failing) same ∙ none;
  },
)
after_run old new (s ∷ states) (inl read, run) none fed =
    let rest = after_run s new states run (ap (λ d. d.calls.failing) read ∙ none) fed in
    (rest.0, before_read old new rest.0 (none_fails old none) (subst (λ d. IsAfter d new rest.0) read rest.1))
after_run old new (s ∷ states) (inr (inl made), run) none fed =
    let rest = after_run s new states run (ap (λ d. d.calls.failing) made.1 ∙ none) fed in
    (made.0 ∷ rest.0, before_call old new made.0 rest.0 (none_fails old none) (subst (λ d. IsAfter d new rest.0) made.1 rest.1))
after_run old new (s ∷ states) (inr (inr starves), run) none fed = absurd (cc (stays_starved s new states run (ap (λ d. d.starved) starves), fed))

made_are : (old new : DiskState) (calls : List DiskCall) → IsAfter old new calls → made_since old new ≡ calls
made_are old new calls h =
    ap (λ log. map (λ l. l.call) (drop (length old.history.log) log)) h.log
    ∙ ap (map (λ l. l.call)) (drop-append_seam old.history.log (noted old.until_fault calls))
    ∙ noted_calls old.until_fault calls

-- what its calls have left
pub fed_after : (old new : DiskState) → Went old new → old.calls.failing ≡ [] → new.starved ≡ false → IsAfter old new (made_since old new)
fed_after old new calls_advance none fed =
    let h = after_run old new calls_advance.states calls_advance.run none fed in
    subst (IsAfter old new) (sym (made_are old new h.0 h.1)) h.1

-- ---- why the count rose, and what is so where it didn't
module _ (old new : DiskState) (call : ℕ) (ready : IsArmed old call) (calls_advance : Went old new) where
  still_fed : (b : Bool) → new.starved ≡ b → new.faults ≡ old.faults → new.starved ≡ false
  still_fed false is same = is
  still_fed true is same = absurd (omega (arith, same, ready.few, starving_counts old new calls_advance.states calls_advance.run (omega (arith, ready.few)) ready.fed is))

  none_of : (b : Bool) → failed_in (noted old.until_fault (made_since old new)) ≡ b → IsAfter old new (made_since old new) → new.faults ≡ old.faults → failed_in (noted old.until_fault (made_since old new)) ≡ false
  none_of false is h same = is
  none_of true is h same = absurd (omega (arith, same, ready.few, h.faults, some_failed old.faults (noted old.until_fault (made_since old new)) (omega (arith, ready.few)) is))

  pub spared : counted new.faults ≡ counted old.faults → IsSpared old new
  spared no_fault =
      let same : new.faults ≡ old.faults = omega (arith, no_fault, ready.few) in
      let fed = still_fed new.starved refl same in
      let h = fed_after old new calls_advance ready.reads fed in
      let all = all_done old.until_fault (made_since old new) (none_of (failed_in (noted old.until_fault (made_since old new))) refl h same) in
      record { ahead = all.0; in_reach = all.1; left = record { reads = h.reads; fed = fed; few = omega (arith, same, ready.few); armed = h.until }; after = h }

  some_of : (b : Bool) → failed_in (noted old.until_fault (made_since old new)) ≡ b → IsAfter old new (made_since old new) → raised old.faults ≤ new.faults → IsReached old.until_fault (made_since old new) ⊎ (has_too_far (made_since old new) ≡ true)
  some_of true is h rose = one_of_them old.until_fault (made_since old new) is
  some_of false is h rose = absurd (omega (arith, rose, ready.few, h.faults, none_failed old.faults (noted old.until_fault (made_since old new)) is))

  fault_of : (b : Bool) → new.starved ≡ b → raised old.faults ≤ new.faults → MeetsFault old new
  fault_of true is rose = inl is
  fault_of false is rose =
      let h = fed_after old new calls_advance ready.reads is in
      inr (⊎_elim (λ reached. inr reached) (λ far. inl far) (some_of (failed_in (noted old.until_fault (made_since old new))) refl h rose))

  pub meets_fault : Rose (counted old.faults) (counted new.faults) → MeetsFault old new
  meets_fault rose = fault_of new.starved refl (omega (arith, rose, ready.few))
