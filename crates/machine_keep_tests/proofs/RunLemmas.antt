-- The runs of two keepers, from the clauses of the journal's calls.
use Rattle.std.proofs.Common.{◌≡◌, ◌⊎◌, inl, inr, ⊎_elim, ℕ, Bool, true, false, List, [], ◌∷◌, ◌++◌, Result, Ok, Err, refl, sym, ap, subst, ◌≤◌}
use Rattle.ps_disks.specs.Disk.{Only}
use Rattle.host_journal.specs.Calls.{IsRead}
use Rattle.host_journal.specs.Moments.{Shows, LiesBeside, IsDiskOf, Adds, LeftIn, IsNear}
use Rattle.host_journal.specs.Pair.{pair_of}
use Rattle.host_journal.specs.State.{State, stored, with_record, snapshot_of, IsAt, IsOurs, EachImage, EachSince, KeepsPlace, first_disk, second_disk}
use Rattle.host_journal.specs.declared.reading.Counted.{Counted}
use Rattle.host_journal.specs.declared.reading.DiskPlace.{DiskPlace}
use Rattle.host_journal.proofs.MomentLemmas.{adds_on, read_adds, since_begin, beside_record, near_record, near_with_record, near_snapshot, ours_at, fits_pair, run_pair, run_more, run_on, run_since}
use Rattle.machine_keep_tests.specs.Kept.{last_item, Keeps, IsMade}

last_of_more : (number first : List ℕ) (items : List (List ℕ)) → last_item first (items ++ number ∷ []) ≡ number
last_of_more number first [] = refl
last_of_more number first (item ∷ items) = last_of_more number item items

-- a record of the number, and a snapshot of it
keeps_record : (number : List ℕ) (pair : Result Counted DiskPlace) → IsOurs pair → Keeps number (with_record number pair)
keeps_record number (Ok k) ours = last_of_more number [] k.list
keeps_record number (Err place) ours = absurd (cc ours.1)

module _ {D : Type 0} (seen : D → List ℕ) (moment : D → ℕ) (left_since : D → ℕ → List ℕ → Type 0) (number : List ℕ) where
  abbrev Made : State D → Bool → List ℕ → Type 0
  Made s = LeftIn (stored seen s) (IsMade number (stored seen s))

  abbrev Recorded : State D → Bool → List ℕ → Type 0
  Recorded s second c = Shows (stored seen s) second c ⊎ Shows (with_record number (stored seen s)) second c

  abbrev Snapped : State D → Bool → List ℕ → Type 0
  Snapped s second c = LiesBeside (stored seen s) second c ⊎ Shows (snapshot_of number s) second c

  -- A record first.
  recorded_made : (s : State D) → IsAt s (stored seen s) → (second : Bool) (c : List ℕ) → Recorded s second c → Made s second c
  recorded_made s at second c (inl shows) = inl (inl shows)
  recorded_made s at second c (inr shows) =
      let ours = ours_at s (stored seen s) at in
      inr (with_record number (stored seen s), (keeps_record number (stored seen s) ours, near_record number (stored seen s) ours), shows)

  pub after_record : (s mid : State D) → IsAt s (stored seen s) → Adds moment left_since s mid (Recorded s) → Adds moment left_since s mid (Made s)
  after_record s mid at adds = run_more moment left_since s mid (Recorded s) (Made s) adds (recorded_made s at)

  -- Then a snapshot.
  pub after_both : (s mid new : State D) → IsAt s (stored seen s) → Adds moment left_since s mid (Recorded s) → stored seen mid ≡ with_record number (stored seen s) → KeepsPlace s mid → Adds moment left_since mid new (Snapped mid)
      → Adds moment left_since s new (Made s)
  after_both s mid new at adds is kept more =
      run_on moment left_since s mid new (Made s) (Snapped mid) (after_record s mid at adds) more (λ second c. ⊎_elim
      (λ beside. inl (inr (beside_record number (stored seen s) second c (subst (λ (p : Result Counted DiskPlace). LiesBeside p second c) is beside))))
      (λ shows. inr (snapshot_of number mid, (refl, near_snapshot number s mid (stored seen s) at kept.second kept.generation), shows)))

  -- What any two images stand for.
  pub made_since : (may_leave : D → List ℕ → Type 0) (reads_now : (disk : D) → may_leave disk (seen disk)) (only_now : (disk : D) (c : List ℕ) → left_since disk (moment disk) c → may_leave disk c) (s new : State D)
      → IsAt s (stored seen s) → EachImage may_leave s (λ pair. pair ≡ stored seen s) → Adds moment left_since s new (Made s) → EachSince moment left_since s new (λ pair. (pair ≡ stored seen s) ⊎ IsMade number (stored seen s) pair)
  made_since may_leave reads_now only_now s new at each adds =
      run_since moment left_since seen may_leave reads_now only_now s new (stored seen s) (IsMade number (stored seen s)) (ours_at s (stored seen s) at) each (λ pair made. made.1) adds

  -- A cut first.
  pub after_cut : (s mid : State D) → Adds moment left_since s mid (Shows (stored seen s)) → Adds moment left_since s mid (Made s)
  after_cut s mid adds = run_more moment left_since s mid (Shows (stored seen s)) (Made s) adds (λ second c shows. inl (inl shows))

  module _ (s mid : State D) (at : IsAt s (stored seen s)) (adds : Adds moment left_since s mid (Shows (stored seen s))) (same : stored seen mid ≡ stored seen s) (kept : KeepsPlace s mid) where
    near : IsNear (stored seen s) (snapshot_of number mid)
    near = near_snapshot number s mid (stored seen s) at kept.second kept.generation

    -- Then a snapshot.
    pub after_snapshot : (new : State D) → Adds moment left_since mid new (Snapped mid) → Adds moment left_since s new (Made s)
    after_snapshot new more =
        run_on moment left_since s mid new (Made s) (Snapped mid) (after_cut s mid adds) more (λ second c. ⊎_elim
        (λ beside. inl (inr (subst (λ (p : Result Counted DiskPlace). LiesBeside p second c) same beside)))
        (λ shows. inr (snapshot_of number mid, (refl, near), shows)))

    -- Then a record.
    pub after_all : (turned new : State D) → Adds moment left_since mid turned (Snapped mid) → stored seen turned ≡ snapshot_of number mid → Adds moment left_since turned new (Recorded turned) → Adds moment left_since s new (Made s)
    after_all turned new more is last =
        let record_is : with_record number (stored seen turned) ≡ with_record number (snapshot_of number mid) = ap (with_record number) is in
        run_on moment left_since s turned new (Made s) (Recorded turned) (after_snapshot turned more) last (λ second c. ⊎_elim
        (λ shows. inr (snapshot_of number mid, (refl, near), subst (λ (p : Result Counted DiskPlace). Shows p second c) is shows))
        (λ shows. inr (with_record number (snapshot_of number mid), (refl, near_with_record number (stored seen s) (snapshot_of number mid) near), subst (λ (p : Result Counted DiskPlace). Shows p second c) record_is shows)))

  -- A keeper's opening.
  module _ (may_leave : D → List ℕ → Type 0) (counts_now : (disk : D) (t : ℕ) (c : List ℕ) → t ≤ moment disk → may_leave disk c → left_since disk t c)
      (only_now : (disk : D) (c : List ℕ) → left_since disk (moment disk) c → may_leave disk c) (first second : D) (s new : State D) (from : Result Counted DiskPlace)
      (is_from : stored seen s ≡ from) (read : IsRead seen may_leave moment left_since first (first_disk s)) (read_too : IsRead seen may_leave moment left_since second (second_disk s)) (adds : Adds moment left_since s new (Made s)) where
    abbrev Left : Bool → List ℕ → Type 0
    Left = LeftIn from (IsMade number from)

    all : Adds moment left_since s new Left
    all = subst (λ (p : Result Counted DiskPlace). Adds moment left_since s new (LeftIn p (IsMade number p))) is_from adds

    pub first_left : (c : List ℕ) → left_since (first_disk new) (moment first) c → may_leave first c ⊎ Left false c
    first_left c left =
        since_begin moment left_since may_leave only_now first (first_disk new) (Left false)
        (adds_on moment left_since first (first_disk s) (first_disk new) (Left false) (Left false) (read_adds moment left_since seen may_leave counts_now first (first_disk s) (Left false) read) all.first (λ b q. q)) c left

    pub second_left : (d : List ℕ) → left_since (second_disk new) (moment second) d → may_leave second d ⊎ Left true d
    second_left d left =
        since_begin moment left_since may_leave only_now second (second_disk new) (Left true)
        (adds_on moment left_since second (second_disk s) (second_disk new) (Left true) (Left true) (read_adds moment left_since seen may_leave counts_now second (second_disk s) (Left true) read_too) all.second (λ b q. q)) d left

    abbrev Stands : List ℕ → List ℕ → Type 0
    Stands c d = (pair_of c d ≡ from) ⊎ IsMade number from (pair_of c d)

    both : (c d : List ℕ) → Left false c → Left true d → Stands c d
    both c d one two = run_pair from (IsMade number from) (λ pair made. made.1) c d one two

    pub opened_any : (c d : List ℕ) → left_since (first_disk new) (moment first) c → left_since (second_disk new) (moment second) d → (may_leave first c ⊎ may_leave second d) ⊎ Stands c d
    opened_any c d left left_too =
        ⊎_elim (λ now. inl (inl now)) (λ one. ⊎_elim (λ now. inl (inr now)) (λ two. inr (both c d one two)) (second_left d left_too)) (first_left c left)

    pub opened_fixed : IsOurs from → pair_of (seen first) (seen second) ≡ from → Only (seen first) (may_leave first) → Only (seen second) (may_leave second)
        → (c d : List ℕ) → left_since (first_disk new) (moment first) c → left_since (second_disk new) (moment second) d → Stands c d
    opened_fixed ours is only only_too c d left left_too =
        let fits = fits_pair from (seen first) (seen second) ours is in
        let one : Left false c = ⊎_elim (λ now. inl (subst (IsDiskOf from false) (sym (only c now)) fits.0)) (λ q. q) (first_left c left) in
        let two : Left true d = ⊎_elim (λ now. inl (subst (IsDiskOf from true) (sym (only_too d now)) fits.1)) (λ q. q) (second_left d left_too) in
        both c d one two
