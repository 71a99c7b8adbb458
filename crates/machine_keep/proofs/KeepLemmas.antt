-- What the disks of a kept machine stand for: after a call, and at every moment of it, from the clauses of the journal's calls.
use Rattle.std.proofs.Common.{◌≡◌, ◌⊎◌, ◌≤◌, IfOk, inl, inr, ⊎_elim, ℕ, Bool, true, false, List, [], ◌∷◌, ◌++◌, Option, Some, Result, Ok, Err, refl, sym, ◌∙◌, ap, subst, arith}
use Rattle.host_journal.specs.Calls.{IsRead}
use Rattle.host_journal.specs.Moments.{Shows, LiesBeside, Adds, AddsOnly, LeftIn, IsNear}
use Rattle.host_journal.specs.Pair.{pair_of}
use Rattle.host_journal.specs.State.{State, stored, opened_as, with_record, with_room, snapshot_of, IsAt, IsOurs, EachImage, EachSince, KeepsPlace, SameButRoom, first_disk, second_disk}
use Rattle.host_journal.specs.declared.reading.Counted.{Counted}
use Rattle.host_journal.specs.declared.reading.DiskPlace.{DiskPlace}
use Rattle.host_journal.proofs.MomentLemmas.{beside_record, fits_first, fits_second, near_record, near_snapshot, ours_at, run_more, run_on, run_pair, run_since, since_begin}
use Rattle.machine_keep.specs.Kept.{EachFrom, IsMade, IsMigrating, Snapped, StandsAround, StandsEither, StandsFor}

-- with the record of a step the disks stand for the state after it
module _ {S T : Type 0} (stands : List (List ℕ) → S → Type 0) (bytes : T → List ℕ) (follows : S → T → Type 0) (after : S → T → S)
    (more : (list : List (List ℕ)) (s : S) (step : T) → stands list s → follows s step → stands (list ++ bytes step ∷ []) (after s step)) where
  pub with_step : (s : S) (step : T) (pair : Result Counted DiskPlace) → follows s step → StandsFor stands s pair → StandsFor stands (after s step) (with_record (bytes step) pair)
  with_step s step (Ok k) can stood = more k.list s step stood can
  with_step s step (Err place) can stood = stood

  -- so they do where the step was taken in
  pub taken_in : (s new : S) (step taken : T) (payload : List ℕ) (before now : Result Counted DiskPlace) → taken ≡ step → payload ≡ bytes step → new ≡ after s taken → now ≡ with_record payload before
      → follows s step → StandsFor stands s before → StandsFor stands new now
  taken_in s new step taken payload before now same is became appended can stood =
      subst (λ (x : S). StandsFor stands x now) (sym (became ∙ ap (after s) same))
      (subst (StandsFor stands (after s step)) (sym (appended ∙ ap (λ (b : List ℕ). with_record b before) is)) (with_step s step before can stood))

-- At every moment, where nothing was done.
module _ {D S : Type 0} (moment : D → ℕ) (left_since : D → ℕ → List ℕ → Type 0) (may_leave : D → List ℕ → Type 0)
    (only_now : (disk : D) (c : List ℕ) → left_since disk (moment disk) c → may_leave disk c) (stands : List (List ℕ) → S → Type 0) (now : S) where
  pub since_same : (old new : State D) (P : Result Counted DiskPlace → Type 0) → new ≡ old → EachImage may_leave old (StandsFor stands now) → EachSince moment left_since old new (λ pair. StandsFor stands now pair ⊎ P pair)
  since_same old new P same each = subst (λ (s : State D). EachSince moment left_since old s (λ pair. StandsFor stands now pair ⊎ P pair)) (sym same)
      (λ c d left left_too. inl (each c d (only_now (first_disk old) c left) (only_now (second_disk old) d left_too)))

-- At every moment.
module _ {D S : Type 0} (seen : D → List ℕ) (moment : D → ℕ) (left_since : D → ℕ → List ℕ → Type 0) (may_leave : D → List ℕ → Type 0)
    (reads_now : (disk : D) → may_leave disk (seen disk)) (only_now : (disk : D) (c : List ℕ) → left_since disk (moment disk) c → may_leave disk c)
    (stands : List (List ℕ) → S → Type 0) (now : S) where
  module _ (later : S) (payload : List ℕ) (old mid : State D) (same : SameButRoom old mid) (at : IsAt old (stored seen old))
      (each : EachImage may_leave old (λ pair. pair ≡ stored seen old)) (stood : StandsFor stands now (stored seen old)) (with_it : StandsFor stands later (with_record payload (stored seen old))) where
    abbrev From : Result Counted DiskPlace
    From = stored seen old

    abbrev Made : Result Counted DiskPlace → Type 0
    Made = IsMade stands From later

    abbrev Recorded : State D → Bool → List ℕ → Type 0
    Recorded s second c = Shows (stored seen s) second c ⊎ Shows (with_record payload (stored seen s)) second c

    recorded_made : (second : Bool) (c : List ℕ) → Recorded old second c → LeftIn From Made second c
    recorded_made second c (inl shows) = inl (inl shows)
    recorded_made second c (inr shows) = inr (with_record payload From, (with_it, near_record payload From (ours_at old From at)), shows)

    -- room was made
    begun : (new : State D) (Q : State D → Bool → List ℕ → Type 0) → Adds moment left_since mid new (Q mid) → Adds moment left_since old new (Q (with_room old mid.room))
    begun new Q adds = let moved = subst (λ (s : State D). Adds moment left_since s new (Q s)) same adds in record { first = moved.first; second = moved.second }

    pub made_record : (new : State D) → Adds moment left_since mid new (Recorded mid) → Adds moment left_since old new (LeftIn From Made)
    made_record new adds = run_more moment left_since old new (Recorded old) (LeftIn From Made) (begun new Recorded adds) recorded_made

    each_since : (new : State D) → Adds moment left_since old new (LeftIn From Made) → EachSince moment left_since old new (λ pair. StandsFor stands now pair ⊎ StandsFor stands later pair)
    each_since new adds c d left left_too =
        ⊎_elim (λ is. inl (subst (StandsFor stands now) (sym is) stood)) (λ made. inr made.0)
        (run_since moment left_since seen may_leave reads_now only_now old new From Made (ours_at old From at) each (λ pair made. made.1) adds c d left left_too)

    -- after a record alone
    pub since_record : (new : State D) → Adds moment left_since mid new (Recorded mid) → EachSince moment left_since old new (λ pair. StandsFor stands now pair ⊎ StandsFor stands later pair)
    since_record new adds = each_since new (made_record new adds)

    -- after a record and a snapshot of the state that came of it
    pub made_snapshot : (turned new : State D) (s : S) → Adds moment left_since mid turned (Recorded mid) → stored seen turned ≡ with_record payload (stored seen mid) → KeepsPlace mid turned → s ≡ later
        → Adds moment left_since turned new (Snapped seen stands s turned) → Adds moment left_since old new (LeftIn From Made)
    made_snapshot turned new s adds is kept became more =
        let was : stored seen mid ≡ From = subst (λ (s : State D). stored seen s ≡ From) (sym same) refl in
        let both : stored seen turned ≡ with_record payload From = is ∙ ap (with_record payload) was in
        let side : turned.second ≡ old.second = kept.second ∙ ap (λ (s : State D). s.second) same in
        let generation : turned.generation ≡ old.generation = kept.generation ∙ ap (λ (s : State D). s.generation) same in
        run_on moment left_since old turned new (LeftIn From Made) (Snapped seen stands s turned) (made_record turned adds) more (λ second c. ⊎_elim
        (λ beside. inl (inr (beside_record payload From second c (subst (λ (p : Result Counted DiskPlace). LiesBeside p second c) both beside))))
        (λ shown. inr (snapshot_of shown.0 turned, (subst (λ (x : S). stands (shown.0 ∷ []) x) became shown.1.0, near_snapshot shown.0 old turned From at side generation), shown.1.1)))

    pub since_snapshot : (turned new : State D) (s : S) → Adds moment left_since mid turned (Recorded mid) → stored seen turned ≡ with_record payload (stored seen mid) → KeepsPlace mid turned → s ≡ later
        → Adds moment left_since turned new (Snapped seen stands s turned) → EachSince moment left_since old new (λ pair. StandsFor stands now pair ⊎ StandsFor stands later pair)
    since_snapshot turned new s adds is kept became more = each_since new (made_snapshot turned new s adds is kept became more)

-- a snapshot alone
pub made_alone : {D S : Type 0} (seen : D → List ℕ) (moment : D → ℕ) (left_since : D → ℕ → List ℕ → Type 0) (stands : List (List ℕ) → S → Type 0) (later : S) (old new : State D)
    → IsAt old (stored seen old) → Adds moment left_since old new (Snapped seen stands later old) → Adds moment left_since old new (LeftIn (stored seen old) (IsMade stands (stored seen old) later))
made_alone seen moment left_since stands later old new at adds =
    run_more moment left_since old new (Snapped seen stands later old) (LeftIn (stored seen old) (IsMade stands (stored seen old) later)) adds (λ second c. ⊎_elim
    (λ beside. inl (inr beside))
    (λ shown. inr (snapshot_of shown.0 old, (shown.1.0, near_snapshot shown.0 old old (stored seen old) at refl refl), shown.1.1)))

-- the same bytes, as they are written
pub snapped_with : {D S : Type 0} (seen : D → List ℕ) (moment : D → ℕ) (left_since : D → ℕ → List ℕ → Type 0) (stands : List (List ℕ) → S → Type 0) (s : S) (image : List ℕ) (old mid new : State D)
    → SameButRoom old mid → stands (image ∷ []) s → Adds moment left_since mid new (λ second c. LiesBeside (stored seen mid) second c ⊎ Shows (snapshot_of image mid) second c) → Adds moment left_since old new (Snapped seen stands s old)
snapped_with {D = D} seen moment left_since stands s image old mid new same alone adds =
    let more = run_more moment left_since mid new (λ second c. LiesBeside (stored seen mid) second c ⊎ Shows (snapshot_of image mid) second c) (Snapped seen stands s mid) adds (λ second c. ⊎_elim (λ beside. inl beside) (λ shows. inr (image, (alone, shows)))) in
    let moved = subst (λ (m : State D). Adds moment left_since m new (Snapped seen stands s m)) same more in
    record { first = moved.first; second = moved.second }

-- what an opening found is one of ours
ours_opened : {D : Type 0} (s : State D) (list : List (List ℕ)) (pair : Result Counted DiskPlace) → pair ≡ opened_as s list → IsOurs pair
ours_opened s list pair is = (record { second = s.second; generation = s.generation; start = s.start; end = s.end; list = list }, is)

-- of a result that is Ok
pub ok_both : {A E : Type 0} (P Q R : A → Type 0) → ((a : A) → P a → Q a → R a) → (r : Result A E) → IfOk r P → IfOk r Q → IfOk r R
ok_both P Q R f (Ok a) p q = f a p q
ok_both P Q R f (Err e) p q = tt

-- Where the call began after a fault.
module _ {D : Type 0} (seen : D → List ℕ) (may_leave : D → List ℕ → Type 0) (moment : D → ℕ) (left_since : D → ℕ → List ℕ → Type 0) (only_now : (disk : D) (c : List ℕ) → left_since disk (moment disk) c → may_leave disk c) where
  -- an image of a disk that was only synced and read could have been left before
  pub only_read : (old new : D) → IsRead seen may_leave moment left_since old new → (c : List ℕ) → left_since new (moment old) c → may_leave old c
  only_read old new read c left = ⊎_elim (λ before. only_now old c before) (λ now. now) (read.moments.before (moment old) c (omega arith) left)

  was : (old mid new : D) (Q : List ℕ → Type 0) → IsRead seen may_leave moment left_since old mid → AddsOnly moment left_since mid new Q → (c : List ℕ) → left_since new (moment old) c → may_leave old c ⊎ Q c
  was old mid new Q read adds c left = ⊎_elim (λ past. inl (only_read old mid read c past)) (λ q. inr q) (adds.each (moment old) c read.moments.later left)

  pub recovered : (first second : D) (mid : State D) (first_now second_now : D) (from : Result Counted DiskPlace) (Made : Result Counted DiskPlace → Type 0) → ((pair : Result Counted DiskPlace) → Made pair → IsNear from pair)
      → IsRead seen may_leave moment left_since first (first_disk mid) → IsRead seen may_leave moment left_since second (second_disk mid)
      → AddsOnly moment left_since (first_disk mid) first_now (LeftIn from Made false) → AddsOnly moment left_since (second_disk mid) second_now (LeftIn from Made true)
      → EachFrom may_leave moment left_since first second first_now second_now (λ pair. (pair ≡ from) ⊎ Made pair)
  recovered first second mid first_now second_now from Made near one two adds adds_too c d left left_too =
      ⊎_elim (λ now. inl (inl now)) (λ q. ⊎_elim (λ now. inl (inr now)) (λ r. inr (run_pair from Made near c d q r))
      (was second (second_disk mid) second_now (LeftIn from Made true) two adds_too d left_too))
      (was first (first_disk mid) first_now (LeftIn from Made false) one adds c left)

  -- of an opening that gave no machine
  module _ {S : Type 0} (stands stood : List (List ℕ) → S → Type 0) (first second : D) (mid : State D)
      (one : IsRead seen may_leave moment left_since first (first_disk mid)) (two : IsRead seen may_leave moment left_since second (second_disk mid)) where
    pub not_opened : (first_now second_now : D) → stored seen mid ≡ pair_of (seen first) (seen second)
        → ((first_now ≡ first_disk mid) × (second_now ≡ second_disk mid)) ⊎ IsMigrating seen moment left_since stands stood mid first_now second_now
        → EachFrom may_leave moment left_since first second first_now second_now (λ pair. (s : S) × (StandsEither stands stood s (pair_of (seen first) (seen second)) × StandsEither stands stood s pair))
    not_opened first_now second_now is (inl same) c d left left_too = inl (inl (only_read first (first_disk mid) one c (subst (λ (disk : D). left_since disk (moment first) c) same.0 left)))
    not_opened first_now second_now is (inr m) c d left left_too =
        ⊎_elim (λ before. inl before)
        (λ made. inr (m.state, (subst (StandsEither stands stood m.state) is m.either, ⊎_elim (λ at. subst (StandsEither stands stood m.state) (sym at) m.either) (λ it. inl it.0) made)))
        (recovered first second mid first_now second_now (stored seen mid) (IsMade stands (stored seen mid) m.state) (λ pair made. made.1) one two m.adds_first m.adds_second c d left left_too)

    -- what is left of the disks that come back
    pub left_so : (reads_now : (disk : D) → may_leave disk (seen disk)) (counts_now : (disk : D) (t : ℕ) (c : List ℕ) → t ≤ moment disk → may_leave disk c → left_since disk t c)
        (list : List (List ℕ)) (first_now second_now : D) → stored seen mid ≡ pair_of (seen first) (seen second) → pair_of (seen first) (seen second) ≡ opened_as mid list → EachImage may_leave mid (λ pair. pair ≡ pair_of (seen first) (seen second))
        → ((first_now ≡ first_disk mid) × (second_now ≡ second_disk mid)) ⊎ IsMigrating seen moment left_since stands stood mid first_now second_now
        → (c d : List ℕ) → may_leave first_now c → may_leave second_now d
        → (may_leave first c × may_leave second d) ⊎ ((s : S) × (StandsEither stands stood s (pair_of (seen first) (seen second)) × StandsEither stands stood s (pair_of c d)))
    left_so reads_now counts_now list first_now second_now is opened_it each (inl same) c d now now_too =
        inl (one.images c (subst (λ (disk : D). may_leave disk c) same.0 now), two.images d (subst (λ (disk : D). may_leave disk d) same.1 now_too))
    left_so reads_now counts_now list first_now second_now is opened_it each (inr m) c d now now_too =
        let ours = ours_opened mid list (stored seen mid) (is ∙ opened_it) in
        let each_it : EachImage may_leave mid (λ pair. pair ≡ stored seen mid) = λ a b left left_too. each a b left left_too ∙ sym is in
        let first_left : LeftIn (stored seen mid) (IsMade stands (stored seen mid) m.state) false c = ⊎_elim (λ before. inl (fits_first seen may_leave reads_now mid (stored seen mid) ours each_it c before)) (λ q. q)
        (since_begin moment left_since may_leave only_now (first_disk mid) first_now (LeftIn (stored seen mid) (IsMade stands (stored seen mid) m.state) false) m.adds_first c (counts_now first_now (moment (first_disk mid)) c m.adds_first.later now)) in
        let second_left : LeftIn (stored seen mid) (IsMade stands (stored seen mid) m.state) true d = ⊎_elim (λ before. inl (fits_second seen may_leave reads_now mid (stored seen mid) ours each_it d before)) (λ q. q)
        (since_begin moment left_since may_leave only_now (second_disk mid) second_now (LeftIn (stored seen mid) (IsMade stands (stored seen mid) m.state) true) m.adds_second d (counts_now second_now (moment (second_disk mid)) d m.adds_second.later now_too)) in
        inr (
          m.state,
          (
            subst (StandsEither stands stood m.state) is m.either,
            ⊎_elim (λ at. subst (StandsEither stands stood m.state) (sym at) m.either) (λ it. inl it.0) (run_pair (stored seen mid) (IsMade stands (stored seen mid) m.state) (λ pair made. made.1) c d first_left second_left),
          ),
        )

  -- two disks that were only synced and read
  pub refused : (first second first_now second_now : D) (P : Result Counted DiskPlace → Type 0) → IsRead seen may_leave moment left_since first first_now → EachFrom may_leave moment left_since first second first_now second_now P
  refused first second first_now second_now P read c d left left_too = inl (inl (only_read first first_now read c left))

-- a run that only made room adds nothing
pub adds_none : {D : Type 0} (moment : D → ℕ) (left_since : D → ℕ → List ℕ → Type 0) (old mid : State D) (Q : Bool → List ℕ → Type 0) → SameButRoom old mid → Adds moment left_since old mid Q
adds_none moment left_since old mid Q same = subst (λ s. Adds moment left_since old s Q) (sym same) (record {
  first = record { later = omega arith; each = λ t c le left. inl left };
  second = record { later = omega arith; each = λ t c le left. inl left };
})

pub adds_still : {D : Type 0} (moment : D → ℕ) (left_since : D → ℕ → List ℕ → Type 0) (old new : State D) (Q : Bool → List ℕ → Type 0) → new ≡ old → Adds moment left_since old new Q
adds_still moment left_since old new Q same = adds_none moment left_since old new Q (same ∙ sym (ap (λ s. with_room old s.room) same))

-- what a step may have made
pub around : {S C R T : Type 0} (stands : List (List ℕ) → S → Type 0) (answers : S → C → R → Option T → Type 0) (after : S → T → S) (s : S) (call : C) (reply : R) (decided : Option T) (from : Result Counted DiskPlace)
    → StandsFor stands s from → answers s call reply decided → (pair : Result Counted DiskPlace) → (pair ≡ from) ⊎ ((step : T) × ((decided ≡ Some step) × IsMade stands from (after s step) pair)) → StandsAround stands answers after s call pair
around stands answers after s call reply decided from stood answered pair (inl is) = inl (subst (StandsFor stands s) (sym is) stood)
around stands answers after s call reply decided from stood answered pair (inr made) = inr (reply, (made.0, (subst (answers s call reply) made.1.0 answered, made.1.1.0)))

-- what a step adds, as one that was decided
pub adds_decided : {D S T : Type 0} (moment : D → ℕ) (left_since : D → ℕ → List ℕ → Type 0) (stands : List (List ℕ) → S → Type 0) (after : T → S) (old new : State D) (from : Result Counted DiskPlace) (decided : Option T) (step : T) → decided ≡ Some step
    → Adds moment left_since old new (LeftIn from (IsMade stands from (after step)))
    → Adds moment left_since old new (LeftIn from (λ pair. (x : T) × ((decided ≡ Some x) × IsMade stands from (after x) pair)))
adds_decided {T = T} moment left_since stands after old new from decided step is adds =
    run_more moment left_since old new (LeftIn from (IsMade stands from (after step))) (LeftIn from (λ pair. (x : T) × ((decided ≡ Some x) × IsMade stands from (after x) pair))) adds (λ second c. ⊎_elim
    (λ fits. inl fits)
    (λ made. inr (made.0, (step, (is, made.1)), made.2)))
