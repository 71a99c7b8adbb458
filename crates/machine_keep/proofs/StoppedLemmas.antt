-- A step over disks in memory: which of its calls were made, and what the disks noted of them.
use Rattle.std.proofs.Common.{◌≡◌, ◌⊎◌, inl, inr, ⊎_elim, ℕ, ◌+◌, ◌-◌, ◌<◌, ◌≤◌, ◌==◌, Bool, false, true, not, ◌||◌, if◌then◌else◌, List, [], ◌∷◌, ◌++◌, length, drop, take, refl, sym, ◌∙◌, ap, subst, arith, append_assoc, append-nil, length-append}
use Rattle.std.specs.Prelude.{None, Some, option_map}
use Rattle.std.proofs.Math.Seq.{drop-append_seam, take-append-add}
use Rattle.std.proofs.lemmas.Bool.{eqb-true}
use Rattle.ps_ports.specs.Causes.{Rose, counted}
use Rattle.ps_disks.specs.History.{History}
use Rattle.ps_disks.specs.MemoryDisk.{DiskState, ends_too_far, told_calls}
use Rattle.ps_disks.specs.Run.{IsAfter, IsArmed, IsSpared, MeetsFault, Went, has_too_far, made_since, noted, calls_advance_further}
use Rattle.ps_disks.specs.declared.disk.DiskCall.{DiskCall}
use Rattle.ps_disks.specs.declared.history.LoggedCall.{LoggedCall}
use Rattle.ps_disks.proofs.RunLemmas.{fed_after, meets_fault, spared}
use Rattle.host_journal.specs.State.{State, first_disk, second_disk}
use Rattle.machine_keep.specs.Calls.{MakesPair, PairCalls, TellsIn, TellsPair, first_calls, second_calls}
use Rattle.machine_keep.specs.Stopped.{IsStopped, RunsThrough, StopsAt, are_too_far, first_fault, noted_as, with_calls}
use Rattle.machine_keep.proofs.ArmedLemmas.{told_made}
use Rattle.machine_keep.proofs.CallLemmas.{tells_both}

-- ---- the call that is to fail is still to come behind these
abbrev IsAhead : ℕ → List DiskCall → Type 0
IsAhead number calls = (number ≡ 0) ⊎ (length calls < number)

not_one : (number : ℕ) (call : DiskCall) (calls : List DiskCall) → IsAhead number (call ∷ calls) → (number == 1) ≡ false
not_one number call calls ahead = at (number == 1) refl ahead
  where
    at : (b : Bool) → (number == 1) ≡ b → IsAhead number (call ∷ calls) → b ≡ false
    at false is ahead = refl
    at true is ahead = let one : number ≡ 1 = eqb-true number 1 is in absurd (⊎_elim (λ none. omega (arith, none, one)) (λ more. omega (arith, more, one)) ahead)

nearer : (number : ℕ) (call : DiskCall) (calls : List DiskCall) → IsAhead number (call ∷ calls) → IsAhead (number - 1) calls
nearer number call calls (inl none) = inl (omega (arith, none))
nearer number call calls (inr more) = inr (omega (arith, more))

one_less : (number : ℕ) (call : DiskCall) (calls : List DiskCall) → (number - 1) - length calls ≡ number - length (call ∷ calls)
one_less number call calls = omega arith

-- so they are noted as done
noted_done : (number : ℕ) (calls : List DiskCall) → IsAhead number calls → has_too_far calls ≡ false → noted number calls ≡ noted_as true calls
noted_done number [] ahead near = refl
noted_done number (c ∷ cs) ahead near =
    at (ends_too_far c) refl near (not_one number c cs ahead) (noted_done (number - 1) cs (nearer number c cs ahead))
  where
    at : (b : Bool) → ends_too_far c ≡ b → (b || has_too_far cs) ≡ false → (number == 1) ≡ false → (has_too_far cs ≡ false → noted (number - 1) cs ≡ noted_as true cs) → noted number (c ∷ cs) ≡ noted_as true (c ∷ cs)
    at true is near other rest = absurd (cc near)
    at false is near other rest =
        ap (λ (b : Bool). record { call = c; done = not (b || ends_too_far c) } ∷ noted (number - 1) cs) other
        ∙ (ap (λ (b : Bool). record { call = c; done = not b } ∷ noted (number - 1) cs) is
        ∙ ap (λ (log : List LoggedCall). record { call = c; done = true } ∷ log) (rest near))

-- and none of them is the first to fail
passes : (first second : ℕ) (made calls : PairCalls) (n : ℕ) → IsAhead first (first_calls made) → IsAhead second (second_calls made)
    → first_fault (first - length (first_calls made)) (second - length (second_calls made)) calls ≡ Some n → first_fault first second (made ++ calls) ≡ Some (length made + n)
passes first second [] calls n one two here =
    let one_is : first ≡ first - 0 = omega arith in
    let two_is : second ≡ second - 0 = omega arith in
    let more : n ≡ 0 + n = omega arith in
    ap (λ (k : ℕ). first_fault k second calls) one_is ∙ (ap (λ (k : ℕ). first_fault (first - 0) k calls) two_is ∙ (here ∙ ap Some more))
passes first second ((false, c) ∷ made) calls n one two here =
    let rest = passes (first - 1) second made calls n (nearer first c (first_calls made) one) two
    (ap (λ (k : ℕ). first_fault k (second - length (second_calls made)) calls) (one_less first c (first_calls made)) ∙ here) in
    let more : length made + n + 1 ≡ length ((false, c) ∷ made) + n = omega arith in
    ap (λ (b : Bool). if b then Some 1 else option_map (λ k. k + 1) (first_fault (first - 1) second (made ++ calls))) (not_one first c (first_calls made) one)
    ∙ (ap (option_map (λ k. k + 1)) rest ∙ ap Some more)
passes first second ((true, c) ∷ made) calls n one two here =
    let rest = passes first (second - 1) made calls n one (nearer second c (second_calls made) two)
    (ap (λ (k : ℕ). first_fault (first - length (first_calls made)) k calls) (one_less second c (second_calls made)) ∙ here) in
    let more : length made + n + 1 ≡ length ((true, c) ∷ made) + n = omega arith in
    ap (λ (b : Bool). if b then Some 1 else option_map (λ k. k + 1) (first_fault first (second - 1) (made ++ calls))) (not_one second c (second_calls made) two)
    ∙ (ap (option_map (λ k. k + 1)) rest ∙ ap Some more)

passes_all : (first second : ℕ) (made : PairCalls) → IsAhead first (first_calls made) → IsAhead second (second_calls made) → first_fault first second made ≡ None
passes_all first second [] one two = refl
passes_all first second ((false, c) ∷ made) one two =
    ap (λ (b : Bool). if b then Some 1 else option_map (λ k. k + 1) (first_fault (first - 1) second made)) (not_one first c (first_calls made) one)
    ∙ ap (option_map (λ k. k + 1)) (passes_all (first - 1) second made (nearer first c (first_calls made) one) two)
passes_all first second ((true, c) ∷ made) one two =
    ap (λ (b : Bool). if b then Some 1 else option_map (λ k. k + 1) (first_fault first (second - 1) made)) (not_one second c (second_calls made) two)
    ∙ ap (option_map (λ k. k + 1)) (passes_all first (second - 1) made one (nearer second c (second_calls made) two))

-- ---- one disk
-- its calls met no fault
module _ (old new : DiskState) (no_fault : IsSpared old new) (calls : List DiskCall) (made : made_since old new ≡ calls) where
  still_ahead : IsAhead old.until_fault calls
  still_ahead = subst (IsAhead old.until_fault) made no_fault.ahead

  pub done_log : new.history.log ≡ old.history.log ++ noted_as true calls
  done_log =
      subst (λ (l : List DiskCall). new.history.log ≡ old.history.log ++ noted old.until_fault l) made no_fault.after.log
      ∙ ap (λ (log : List LoggedCall). old.history.log ++ log) (noted_done old.until_fault calls still_ahead (subst (λ (l : List DiskCall). has_too_far l ≡ false) made no_fault.in_reach))

  left_number : (number : ℕ) → IsArmed old number → IsArmed new (number - length calls)
  left_number number armed = subst (λ (k : ℕ). IsArmed new (k - length calls)) armed.armed (subst (λ (l : List DiskCall). IsArmed new (old.until_fault - length l)) made no_fault.left)

pub same_history : (a b : History) → a.start ≡ b.start → a.log ≡ b.log → a ≡ b
same_history a b start log = ap (λ (s : List ℕ). record { start = s; log = a.log }) start ∙ ap (λ (l : List LoggedCall). record { start = b.start; log = l }) log

stopped_history : (old mid new : DiskState) (made last : List DiskCall) → mid.history.start ≡ old.history.start → mid.history.log ≡ old.history.log ++ noted_as true made
    → IsAfter mid new last → noted mid.until_fault last ≡ noted_as false last → new.history ≡ with_calls old.history made last
stopped_history old mid new made last start log after failed =
    same_history new.history (with_calls old.history made last) (after.start ∙ start)
    (after.log ∙ (ap (λ (l : List LoggedCall). mid.history.log ++ l) failed ∙ (ap (λ (l : List LoggedCall). l ++ noted_as false last) log ∙ append_assoc old.history.log (noted_as true made) (noted_as false last))))

done_history : (old new : DiskState) (calls : List DiskCall) → new.history.start ≡ old.history.start → new.history.log ≡ old.history.log ++ noted_as true calls → new.history ≡ with_calls old.history calls []
done_history old new calls start log =
    same_history new.history (with_calls old.history calls []) start (log ∙ ap (λ (l : List LoggedCall). old.history.log ++ l) (sym (append-nil (noted_as true calls))))

after_made : (old new : DiskState) (number : ℕ) (calls : List DiskCall) → IsArmed old number → Went old new → new.starved ≡ false → made_since old new ≡ calls → IsAfter old new calls
after_made old new number calls armed calls_advance fed made = subst (IsAfter old new) made (fed_after old new calls_advance armed.reads fed)

-- ---- the places of calls
parted : (made : PairCalls) (last : Bool × DiskCall) (rest : PairCalls) → take (length made + 1) (made ++ last ∷ rest) ≡ made ++ last ∷ []
parted made last rest = take-append-add made (last ∷ rest) 1

parted_before : (made : PairCalls) (last : Bool × DiskCall) (rest : PairCalls) → take ((length made + 1) - 1) (made ++ last ∷ rest) ≡ made
parted_before made last rest =
    let at : (length made + 1) - 1 ≡ length made + 0 = omega arith in
    ap (λ (k : ℕ). take k (made ++ last ∷ rest)) at ∙ (take-append-add made (last ∷ rest) 0 ∙ append-nil made)

parted_last : (made : PairCalls) (last : Bool × DiskCall) (rest : PairCalls) → take 1 (drop ((length made + 1) - 1) (made ++ last ∷ rest)) ≡ last ∷ []
parted_last made last rest =
    let at : (length made + 1) - 1 ≡ length made = omega arith in
    ap (λ (k : ℕ). take 1 (drop k (made ++ last ∷ rest))) at ∙ ap (take 1) (drop-append_seam made (last ∷ rest))

near_last : (made : PairCalls) (last : Bool × DiskCall) (rest : PairCalls) → are_too_far (made ++ last ∷ rest) ≡ false → ends_too_far last.1 ≡ false
near_last [] last rest near = at (ends_too_far last.1) refl near
  where
    at : (b : Bool) → ends_too_far last.1 ≡ b → (b || are_too_far rest) ≡ false → b ≡ false
    at true is near = absurd (cc near)
    at false is near = refl
near_last (c ∷ made) last rest near = at (ends_too_far c.1) near (near_last made last rest)
  where
    at : (b : Bool) → (b || are_too_far (made ++ last ∷ rest)) ≡ false → (are_too_far (made ++ last ∷ rest) ≡ false → ends_too_far last.1 ≡ false) → ends_too_far last.1 ≡ false
    at true near rest_near = absurd (cc near)
    at false near rest_near = rest_near near

-- ---- the one call at which a fault was met
abbrev Reached : ℕ → List DiskCall → Type 0
Reached number calls = (1 ≤ number) × (number ≤ length calls)

abbrev Met : ℕ → ℕ → Bool × DiskCall → Type 0
Met first second last = Reached first (first_calls (last ∷ [])) ⊎ Reached second (second_calls (last ∷ []))

one_of : (number : ℕ) (call : DiskCall) → Reached number (call ∷ []) → number ≡ 1
one_of number call reached = omega (arith, reached.0, reached.1)

none_of : {A : Type 0} (number : ℕ) → Reached number [] → A
none_of number reached = absurd (omega (arith, reached.0, reached.1))

last_fails : (first second : ℕ) (last : Bool × DiskCall) (rest : PairCalls) → Met first second last → first_fault first second (last ∷ rest) ≡ Some 1
last_fails first second (false, c) rest (inl one) = ap (λ (k : ℕ). if k == 1 then Some 1 else option_map (λ n. n + 1) (first_fault (k - 1) second rest)) (one_of first c one)
last_fails first second (false, c) rest (inr two) = none_of second two
last_fails first second (true, c) rest (inl one) = none_of first one
last_fails first second (true, c) rest (inr two) = ap (λ (k : ℕ). if k == 1 then Some 1 else option_map (λ n. n + 1) (first_fault first (k - 1) rest)) (one_of second c two)

first_noted : (first second : ℕ) (last : Bool × DiskCall) → Met first second last → noted first (first_calls (last ∷ [])) ≡ noted_as false (first_calls (last ∷ []))
first_noted first second (false, c) (inl one) = ap (λ (k : ℕ). noted k (c ∷ [])) (one_of first c one)
first_noted first second (false, c) (inr two) = none_of second two
first_noted first second (true, c) met = refl

second_noted : (first second : ℕ) (last : Bool × DiskCall) → Met first second last → noted second (second_calls (last ∷ [])) ≡ noted_as false (second_calls (last ∷ []))
second_noted first second (true, c) (inr two) = ap (λ (k : ℕ). noted k (c ∷ [])) (one_of second c two)
second_noted first second (true, c) (inl one) = none_of first one
second_noted first second (false, c) met = refl

first_near : (last : Bool × DiskCall) → ends_too_far last.1 ≡ false → has_too_far (first_calls (last ∷ [])) ≡ false
first_near (false, c) near = ap (λ b. b || false) near
first_near (true, c) near = refl

second_near : (last : Bool × DiskCall) → ends_too_far last.1 ≡ false → has_too_far (second_calls (last ∷ [])) ≡ false
second_near (true, c) near = ap (λ b. b || false) near
second_near (false, c) near = refl

-- with memory, and in reach, the call that was to fail was made
reached : (mid new : DiskState) (calls : List DiskCall) → made_since mid new ≡ calls → new.starved ≡ false → has_too_far calls ≡ false → MeetsFault mid new → Reached mid.until_fault calls
reached mid new calls made fed near (inl starved) = absurd (cc (starved, fed))
reached mid new calls made fed near (inr (inl far)) = absurd (cc (far, ap has_too_far made, near))
reached mid new calls made fed near (inr (inr it)) = (it.0, subst (λ (l : List DiskCall). mid.until_fault ≤ length l) made it.1)

module _ (f f_mid f_new s s_mid s_new : DiskState) (made : PairCalls) (last : Bool × DiskCall) (rest : PairCalls) (first second : ℕ) (armed_one : IsArmed f first) (armed_two : IsArmed s second)
    (before : MakesPair told_calls (λ (d : DiskState). counted d.faults) Went f s f_mid s_mid made) (told : TellsPair told_calls f_mid s_mid f_new s_new (last ∷ []))
    (rose : Rose (counted f_mid.faults) (counted f_new.faults) ⊎ Rose (counted s_mid.faults) (counted s_new.faults)) (calls_advance : Went f_mid f_new × Went s_mid s_new)
    (fed_one : f_new.starved ≡ false) (fed_two : s_new.starved ≡ false) (near : ends_too_far last.1 ≡ false) where
  one : IsSpared f f_mid
  one = spared f f_mid first armed_one before.calls_advance.0 before.no_fault.0

  two : IsSpared s s_mid
  two = spared s s_mid second armed_two before.calls_advance.1 before.no_fault.1

  made_one : made_since f f_mid ≡ first_calls made
  made_one = told_made f f_mid (first_calls made) one.left.fed before.told.0

  made_two : made_since s s_mid ≡ second_calls made
  made_two = told_made s s_mid (second_calls made) two.left.fed before.told.1

  last_one : made_since f_mid f_new ≡ first_calls (last ∷ [])
  last_one = told_made f_mid f_new (first_calls (last ∷ [])) fed_one told.0

  last_two : made_since s_mid s_new ≡ second_calls (last ∷ [])
  last_two = told_made s_mid s_new (second_calls (last ∷ [])) fed_two told.1

  left_one : IsArmed f_mid (first - length (first_calls made))
  left_one = left_number f f_mid one (first_calls made) made_one first armed_one

  left_two : IsArmed s_mid (second - length (second_calls made))
  left_two = left_number s s_mid two (second_calls made) made_two second armed_two

  met : Met f_mid.until_fault s_mid.until_fault last
  met =
      ⊎_elim
      (λ r. inl (reached f_mid f_new (first_calls (last ∷ [])) last_one fed_one (first_near last near) (meets_fault f_mid f_new (first - length (first_calls made)) left_one calls_advance.0 r)))
      (λ r. inr (reached s_mid s_new (second_calls (last ∷ [])) last_two fed_two (second_near last near) (meets_fault s_mid s_new (second - length (second_calls made)) left_two calls_advance.1 r)))
      rose

  stop_place : first_fault first second (made ++ last ∷ rest) ≡ Some (length made + 1)
  stop_place =
      passes first second made (last ∷ rest) 1 (subst (λ (k : ℕ). IsAhead k (first_calls made)) armed_one.armed (still_ahead f f_mid one (first_calls made) made_one))
      (subst (λ (k : ℕ). IsAhead k (second_calls made)) armed_two.armed (still_ahead s s_mid two (second_calls made) made_two))
      (subst (λ (k : ℕ). first_fault k (second - length (second_calls made)) (last ∷ rest) ≡ Some 1) left_one.armed
      (subst (λ (k : ℕ). first_fault f_mid.until_fault k (last ∷ rest) ≡ Some 1) left_two.armed (last_fails f_mid.until_fault s_mid.until_fault last rest met)))

  first_stopped : f_new.history ≡ with_calls f.history (first_calls made) (first_calls (last ∷ []))
  first_stopped =
      stopped_history f f_mid f_new (first_calls made) (first_calls (last ∷ [])) one.after.start (done_log f f_mid one (first_calls made) made_one)
      (after_made f_mid f_new (first - length (first_calls made)) (first_calls (last ∷ [])) left_one calls_advance.0 fed_one last_one) (first_noted f_mid.until_fault s_mid.until_fault last met)

  second_stopped : s_new.history ≡ with_calls s.history (second_calls made) (second_calls (last ∷ []))
  second_stopped =
      stopped_history s s_mid s_new (second_calls made) (second_calls (last ∷ [])) two.after.start (done_log s s_mid two (second_calls made) made_two)
      (after_made s_mid s_new (second - length (second_calls made)) (second_calls (last ∷ [])) left_two calls_advance.1 fed_two last_two) (second_noted f_mid.until_fault s_mid.until_fault last met)

  both_told : TellsPair told_calls f s f_new s_new (made ++ last ∷ [])
  both_told = tells_both told_calls f s f_mid s_mid f_new s_new made (last ∷ []) before.told told

  first_made : IsAfter f f_new (first_calls (made ++ last ∷ []))
  first_made =
      after_made f f_new first (first_calls (made ++ last ∷ [])) armed_one (calls_advance_further f f_mid f_new before.calls_advance.0 calls_advance.0) fed_one (told_made f f_new (first_calls (made ++ last ∷ [])) fed_one both_told.0)

  second_made : IsAfter s s_new (second_calls (made ++ last ∷ []))
  second_made =
      after_made s s_new second (second_calls (made ++ last ∷ [])) armed_two (calls_advance_further s s_mid s_new before.calls_advance.1 calls_advance.1) fed_two (told_made s s_new (second_calls (made ++ last ∷ [])) fed_two both_told.1)

-- ---- a step
module _ (old new : State DiskState) (calls : PairCalls) (first second : ℕ) (armed_one : IsArmed (first_disk old) first) (armed_two : IsArmed (second_disk old) second) where
  -- at the call behind those that were made
  pub stopped_at : (stop : IsStopped old new calls) → (first_disk new).starved ≡ false → (second_disk new).starved ≡ false → are_too_far calls ≡ false → StopsAt first second old new calls (length stop.made + 1)
  stopped_at stop fed_one fed_two near =
      let made = stop.made in
      let last = stop.last in
      let rest = stop.rest in
      let all : PairCalls = made ++ last ∷ rest in
      let end = near_last made last rest (subst (λ (l : PairCalls). are_too_far l ≡ false) stop.split near) in
      let first_so = first_stopped (first_disk old) stop.first_mid (first_disk new) (second_disk old) stop.second_mid (second_disk new) made last rest first second armed_one armed_two stop.before stop.told stop.rose stop.calls_advance fed_one fed_two end in
      let second_so = second_stopped (first_disk old) stop.first_mid (first_disk new) (second_disk old) stop.second_mid (second_disk new) made last rest first second armed_one armed_two stop.before stop.told stop.rose stop.calls_advance fed_one fed_two end in
      subst (λ (l : PairCalls). StopsAt first second old new l (length made + 1)) (sym stop.split) (record {
        least = omega arith;
        most = omega (arith, length-append made (last ∷ rest));
        place = stop_place (first_disk old) stop.first_mid (first_disk new) (second_disk old) stop.second_mid (second_disk new) made last rest first second armed_one armed_two stop.before stop.told stop.rose stop.calls_advance fed_one fed_two end;
        first_history = subst (λ (l : PairCalls). (first_disk new).history ≡ with_calls (first_disk old).history (first_calls l) (first_calls (take 1 (drop ((length made + 1) - 1) all)))) (sym (parted_before made last rest))
            (subst (λ (l : PairCalls). (first_disk new).history ≡ with_calls (first_disk old).history (first_calls made) (first_calls l)) (sym (parted_last made last rest)) first_so);
        second_history = subst (λ (l : PairCalls). (second_disk new).history ≡ with_calls (second_disk old).history (second_calls l) (second_calls (take 1 (drop ((length made + 1) - 1) all)))) (sym (parted_before made last rest))
            (subst (λ (l : PairCalls). (second_disk new).history ≡ with_calls (second_disk old).history (second_calls made) (second_calls l)) (sym (parted_last made last rest)) second_so);
        first_after = subst (λ (l : PairCalls). IsAfter (first_disk old) (first_disk new) (first_calls l)) (sym (parted made last rest))
            (first_made (first_disk old) stop.first_mid (first_disk new) (second_disk old) stop.second_mid (second_disk new) made last rest first second armed_one armed_two stop.before stop.told stop.rose stop.calls_advance fed_one fed_two end);
        second_after = subst (λ (l : PairCalls). IsAfter (second_disk old) (second_disk new) (second_calls l)) (sym (parted made last rest))
            (second_made (first_disk old) stop.first_mid (first_disk new) (second_disk old) stop.second_mid (second_disk new) made last rest first second armed_one armed_two stop.before stop.told stop.rose stop.calls_advance fed_one fed_two end);
      })

  pub stopped : IsStopped old new calls → (first_disk new).starved ≡ false → (second_disk new).starved ≡ false → are_too_far calls ≡ false → (n : ℕ) × StopsAt first second old new calls n
  stopped stop fed_one fed_two near = (length stop.made + 1, stopped_at stop fed_one fed_two near)

  pub runs_through : IsSpared (first_disk old) (first_disk new) × IsSpared (second_disk old) (second_disk new) → TellsIn told_calls old new calls → RunsThrough first second old new calls
  runs_through no_fault told =
      let one = told_made (first_disk old) (first_disk new) (first_calls calls) no_fault.0.left.fed told.0 in
      let two = told_made (second_disk old) (second_disk new) (second_calls calls) no_fault.1.left.fed told.1 in
      record {
        place = passes_all first second calls (subst (λ (k : ℕ). IsAhead k (first_calls calls)) armed_one.armed (still_ahead (first_disk old) (first_disk new) no_fault.0 (first_calls calls) one))
            (subst (λ (k : ℕ). IsAhead k (second_calls calls)) armed_two.armed (still_ahead (second_disk old) (second_disk new) no_fault.1 (second_calls calls) two));
        first_history = done_history (first_disk old) (first_disk new) (first_calls calls) no_fault.0.after.start (done_log (first_disk old) (first_disk new) no_fault.0 (first_calls calls) one);
        second_history = done_history (second_disk old) (second_disk new) (second_calls calls) no_fault.1.after.start (done_log (second_disk old) (second_disk new) no_fault.1 (second_calls calls) two);
      }
