-- What the disks of a host that is opened stand for and tell, from the clauses of the opening and of the first step.
use Rattle.std.specs.Prelude.{IfErr, IfOk, Option, Some, Result, Ok, Err}
use Rattle.std.proofs.Common.{◌≡◌, ◌⊎◌, ◌∷◌, ◌++◌, ◌∙◌, Bool, true, false, List, [], ap, inl, inr, subst, sym, ℕ, ⊎_elim}
use Rattle.std.proofs.lemmas.List.{append-nil}
use Rattle.host_journal.specs.Moments.{Adds, AddsOnly, LeftIn}
use Rattle.host_journal.specs.Pair.{pair_of}
use Rattle.host_journal.specs.State.{State, EachImage, first_disk, is_ready, second_disk, stored}
use Rattle.host_journal.specs.declared.reading.Counted.{Counted}
use Rattle.host_journal.specs.declared.reading.DiskPlace.{DiskPlace}
use Rattle.host_model.specs.Book.{Book}
use Rattle.host_model.specs.declared.config.Config.{Config}
use Rattle.host_model.specs.declared.reply.Reply.{Reply}
use Rattle.machine_keep.specs.Calls.{PairCalls, TellsIn, TellsPair, TellsSome, sync_calls}
use Rattle.machine_keep.specs.Course.{Opened, Unfound}
use Rattle.machine_keep.specs.Kept.{IsMade, IsStepMade, StandsEither, StandsFor}
use Rattle.machine_keep.specs.Opening.{IsBegun}
use Rattle.host_journal.proofs.MomentLemmas.{run_more}
use Rattle.machine_keep.proofs.CallLemmas.{some_later, tells_both}
use Rattle.machine_keep.proofs.OpeningLemmas.{through}
use Rattle.ps_disks.specs.declared.disk.DiskCall.{DiskCall}
use Rattle.host_keep.specs.Laws.{book_answered}
use Rattle.host_keep.specs.Opening.{Halted, IsFirstAnswer, IsFirstFault, IsStarting, KeptHost, Started, Unstarted, first_call, opening_calls, start_calls, started}
use Rattle.host_keep.specs.Standing.{Answers, Seen, Standing, StandsNow, StoodOnce, after}

-- of a result, from three clauses
pub ok_three : {A E : Type 0} (P Q R S : A → Type 0) → ((a : A) → P a → Q a → R a → S a) → (r : Result A E) → IfOk r P → IfOk r Q → IfOk r R → IfOk r S
ok_three P Q R S f (Ok a) p q r = f a p q r
ok_three P Q R S f (Err e) p q r = tt

pub err_three : {A E : Type 0} (P Q R S : E → Type 0) → ((e : E) → P e → Q e → R e → S e) → (r : Result A E) → IfErr r P → IfErr r Q → IfErr r R → IfErr r S
err_three P Q R S f (Ok a) p q r = tt
err_three P Q R S f (Err e) p q r = f e p q r

-- ---- the first step
-- what a step for the first call makes is the host after it
pub step_started : (s : Standing) (clock : ℕ) (from : Result Counted DiskPlace) (pair : Result Counted DiskPlace) → IsStepMade StandsNow Answers after from s (first_call clock) pair → IsMade StandsNow from (started s.config s.book clock) pair
step_started s clock from pair made =
    (subst (λ (b : Book). StandsFor StandsNow (record { config = s.config; book = b }) pair) (book_answered s (first_call clock) made.0 (Some made.1.0) made.1.1.0) made.1.1.1.0, made.1.1.1.1)

pub adds_started : {D : Type 0} (moment : D → ℕ) (left_since : D → ℕ → List ℕ → Type 0) (old new : State D) (from : Result Counted DiskPlace) (s : Standing) (clock : ℕ) → Adds moment left_since old new (LeftIn from (IsStepMade StandsNow Answers after from s (first_call clock)))
    → Adds moment left_since old new (LeftIn from (IsMade StandsNow from (started s.config s.book clock)))
adds_started moment left_since old new from s clock adds =
    run_more moment left_since old new (LeftIn from (IsStepMade StandsNow Answers after from s (first_call clock))) (LeftIn from (IsMade StandsNow from (started s.config s.book clock))) adds (λ second c. ⊎_elim
    (λ fits. inl fits)
    (λ made. inr (made.0, step_started s clock from made.0 made.1, made.2)))

-- what is told of the disks that are handed back
pub told_back : {D : Type 0} (tells : D → Option (List DiskCall)) (mid now : State D) (first_now second_now : D) (calls : PairCalls) → first_now ≡ first_disk now → second_now ≡ second_disk now → TellsIn tells mid now calls → TellsPair tells (first_disk mid) (second_disk mid) first_now second_now calls
told_back {D} tells mid now first_now second_now calls one two told =
    subst (λ (d : D). TellsPair tells (first_disk mid) (second_disk mid) d second_now calls) (sym one) (subst (λ (d : D). TellsPair tells (first_disk mid) (second_disk mid) (first_disk now) d calls) (sym two) told)

module _ {D : Type 0} (premise : Type 0) (seen : D → List ℕ) (tells : D → Option (List DiskCall)) (clock : ℕ) where
  -- ---- the opening and the first step in a row
  module _ (first second : D) (mid : KeptHost D) (opened : Opened premise seen tells StandsNow first second mid.machine.standing mid.journal) where
    pub started_so : is_ready mid.journal.pending ≡ true → (now : KeptHost D) → (reply : Reply) × IsFirstAnswer premise seen tells clock mid now reply → Started premise seen tells clock first second now
    started_so ready now made =
        let a = made.1 in
        let calls = start_calls a.place a.step a.image in
        record {
          mid = mid;
          opened = opened;
          reply = made.0;
          answered = a;
          told = tells_both tells first second (first_disk mid.journal) (second_disk mid.journal) (first_disk now.journal) (second_disk now.journal) (opening_calls opened.place opened.image) calls opened.told
              (subst (λ (b : Bool). TellsIn tells mid.journal now.journal (sync_calls b ++ calls)) ready a.told);
        }

    pub unstarted_so : (first_now second_now : D) → TellsPair tells (first_disk mid.journal) (second_disk mid.journal) first_now second_now [] → Unstarted premise seen tells clock first second first_now second_now
    unstarted_so first_now second_now none =
        record {
          mid = mid;
          opened = opened;
          told = subst (TellsPair tells first second first_now second_now) (append-nil (opening_calls opened.place opened.image))
              (tells_both tells first second (first_disk mid.journal) (second_disk mid.journal) first_now second_now (opening_calls opened.place opened.image) [] opened.told none);
        }

-- one that met a fault
not_empty : {A : Type 0} (xs : List A) (x : A) (ys : List A) → [] ≡ xs ++ x ∷ ys → ⊥
not_empty [] x ys is = cc is
not_empty (a ∷ xs) x ys is = cc is

module _ {D : Type 0} (premise : Type 0) (seen : D → List ℕ) (tells : D → Option (List DiskCall)) (faults : D → ℕ) (goes : D → D → Type 0) (clock : ℕ) where
  -- it had nothing to find out
  pub met_in_step : (mid now : KeptHost D) → is_ready mid.journal.pending ≡ true → Unfound tells faults goes (λ (m : Seen). m.standing) mid now ⊎ IsFirstFault premise seen tells faults goes clock mid now → IsFirstFault premise seen tells faults goes clock mid now
  met_in_step mid now ready =
      ⊎_elim (λ lost. absurd (not_empty lost.told.made lost.told.last lost.told.rest (ap sync_calls (sym ready) ∙ lost.told.split))) (λ unkept. unkept)

  module _ (calls_advance_refl : (disk : D) → goes disk disk) (calls_advance_trans : (a b c : D) → goes a b → goes b c → goes a c) (first second : D) (mid : KeptHost D) (opened : Opened premise seen tells StandsNow first second mid.machine.standing mid.journal) where
    pub halted_so : is_ready mid.journal.pending ≡ true → (faults (first_disk mid.journal) ≡ faults first) × (faults (second_disk mid.journal) ≡ faults second) → goes first (first_disk mid.journal) × goes second (second_disk mid.journal)
        → (first_now second_now : D) → (now : KeptHost D) × IsFirstFault premise seen tells faults goes clock mid now × (first_now ≡ first_disk now.journal) × (second_now ≡ second_disk now.journal) → Halted premise seen tells faults goes clock first second first_now second_now
    halted_so ready no_fault calls_advance first_now second_now met =
        let now = met.0 in
        let u = met.1 in
        let calls = start_calls u.place u.step u.image in
        let all = opening_calls opened.place opened.image in
        record {
          mid = mid;
          opened = opened;
          now = now;
          unkept = u;
          told = subst (λ (d : D). TellsSome tells faults goes first second d second_now (all ++ calls)) (sym met.2)
              (subst (λ (d : D). TellsSome tells faults goes first second (first_disk now.journal) d (all ++ calls)) (sym met.3)
              (some_later tells faults goes calls_advance_refl calls_advance_trans first second (first_disk mid.journal) (second_disk mid.journal) (first_disk now.journal) (second_disk now.journal) all calls
              (record { told = opened.told; no_fault = no_fault; calls_advance = calls_advance })
              (subst (λ (b : Bool). TellsSome tells faults goes (first_disk mid.journal) (second_disk mid.journal) (first_disk now.journal) (second_disk now.journal) (sync_calls b ++ calls)) ready u.told)));
        }

-- ---- every moment
module _ {D : Type 0} (seen : D → List ℕ) (may_leave : D → List ℕ → Type 0) (moment : D → ℕ) (left_since : D → ℕ → List ℕ → Type 0) (goes : D → D → Type 0)
    (only_now : (disk : D) (c : List ℕ) → left_since disk (moment disk) c → may_leave disk c) (reads_now : (disk : D) → may_leave disk (seen disk)) (config : Config) (clock : ℕ) (first second : D) where
  pub starting : (mid : KeptHost D) → mid.machine.standing.config ≡ config → IsBegun seen moment left_since StandsNow first second mid.machine.standing mid.journal → StandsEither StandsNow StoodOnce mid.machine.standing (pair_of (seen first) (seen second))
      → StandsFor StandsNow mid.machine.standing (stored seen mid.journal) → EachImage may_leave mid.journal (λ pair. pair ≡ stored seen mid.journal) → goes first (first_disk mid.journal) × goes second (second_disk mid.journal)
      → (first_now second_now : D)
      → AddsOnly moment left_since (first_disk mid.journal) first_now (LeftIn (stored seen mid.journal) (IsMade StandsNow (stored seen mid.journal) (started mid.machine.standing.config mid.machine.standing.book clock)) false)
      → AddsOnly moment left_since (second_disk mid.journal) second_now (LeftIn (stored seen mid.journal) (IsMade StandsNow (stored seen mid.journal) (started mid.machine.standing.config mid.machine.standing.book clock)) true)
      → goes (first_disk mid.journal) first_now × goes (second_disk mid.journal) second_now → IsStarting seen may_leave moment left_since goes config clock first second mid.machine.standing.book first_now second_now
  starting mid same begun either stood each opened first_now second_now adds adds_too called =
      let s : Standing = mid.machine.standing in
      let later = started s.config s.book clock in
      subst (λ (k : Config). IsStarting seen may_leave moment left_since goes k clock first second s.book first_now second_now) same
      (record {
        stood = either;
        stands = through seen may_leave moment left_since only_now StandsNow StoodOnce first second reads_now mid.journal s later begun either stood each first_now second_now adds adds_too goes opened called;
      })
