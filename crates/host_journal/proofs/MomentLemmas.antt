-- For callers that make calls in a row: what each of the two disks may have left since the first of them, and what any two such images stand for.
use Rattle.std.proofs.Common.{◌≡◌, ◌⊎◌, ◌≤◌, inl, inr, ⊎_elim, ℕ, ◌+◌, Bool, true, false, not, if◌then◌else◌, List, Result, Ok, Err, refl, sym, ◌∙◌, ap, subst, arith}
use Rattle.std.proofs.lemmas.Bool.Decides.{nat_tests}
use Rattle.host_journal.specs.Calls.{IsRead}
use Rattle.host_journal.specs.Moments.{Shows, LiesBeside, IsDiskOf, AddsOnly, Adds, LeftIn, IsNear}
use Rattle.host_journal.specs.Pair.{pair_of}
use Rattle.host_journal.specs.State.{State, pair_in, IsLess, IsBelow, IsAt, IsOurs, EachImage, EachSince, first_disk, second_disk, with_record, snapshot_of}
use Rattle.host_journal.specs.declared.reading.Counted.{Counted}
use Rattle.host_journal.specs.declared.reading.DiskPlace.{DiskPlace}
use Rattle.host_journal.proofs.OpenLemmas.{opened_pair, shows_standing}
use Rattle.host_journal.proofs.PairLemmas.{pair_standing, whole_shows}
use Rattle.host_journal.proofs.TurnLemmas.{turned_in}

-- Of one disk.
module _ {D : Type 0} (moment : D → ℕ) (left_since : D → ℕ → List ℕ → Type 0) where
  pub adds_then : (old mid new : D) (Q R : List ℕ → Type 0) → AddsOnly moment left_since old mid Q → AddsOnly moment left_since mid new R → AddsOnly moment left_since old new (λ c. Q c ⊎ R c)
  adds_then old mid new Q R one two = record {
    later = omega (arith, one.later, two.later);
    each = λ t c le left. ⊎_elim (λ past. ⊎_elim (λ old_past. inl old_past) (λ q. inr (inl q)) (one.each t c le past)) (λ r. inr (inr r)) (two.each t c (omega (arith, le, one.later)) left);
  }

  -- a run in which each image has Q, and one call more
  pub adds_on : (old mid new : D) (Q R : List ℕ → Type 0) → AddsOnly moment left_since old mid Q → AddsOnly moment left_since mid new R → ((c : List ℕ) → R c → Q c) → AddsOnly moment left_since old new Q
  adds_on old mid new Q R one two more = record {
    later = omega (arith, one.later, two.later);
    each = λ t c le left. ⊎_elim (λ past. one.each t c le past) (λ r. inr (more c r)) (two.each t c (omega (arith, le, one.later)) left);
  }

  pub adds_more : (old new : D) (Q R : List ℕ → Type 0) → AddsOnly moment left_since old new Q → ((c : List ℕ) → Q c → R c) → AddsOnly moment left_since old new R
  adds_more old new Q R adds more = record { later = adds.later; each = λ t c le left. ⊎_elim (λ past. inl past) (λ q. inr (more c q)) (adds.each t c le left) }

  -- an opening or a `reload` adds nothing
  pub read_adds : (seen : D → List ℕ) (may_leave : D → List ℕ → Type 0) (counts_now : (disk : D) (t : ℕ) (c : List ℕ) → t ≤ moment disk → may_leave disk c → left_since disk t c)
      (old new : D) (Q : List ℕ → Type 0) → IsRead seen may_leave moment left_since old new → AddsOnly moment left_since old new Q
  read_adds seen may_leave counts_now old new Q read = record {
    later = read.moments.later;
    each = λ t c le left. inl (⊎_elim (λ past. past) (λ now. counts_now old t c le now) (read.moments.before t c le left));
  }

  -- what was left as the run began, or was added in it
  pub since_begin : (may_leave : D → List ℕ → Type 0) (only_now : (disk : D) (c : List ℕ) → left_since disk (moment disk) c → may_leave disk c)
      (old new : D) (Q : List ℕ → Type 0) → AddsOnly moment left_since old new Q → (c : List ℕ) → left_since new (moment old) c → may_leave old c ⊎ Q c
  since_begin may_leave only_now old new Q adds c left = ⊎_elim (λ past. inl (only_now old c past)) (λ q. inr q) (adds.each (moment old) c (omega arith) left)

-- Of two disks that stand for something, each fits it.
fits_by : (second : Bool) (k : Counted) (first other : List ℕ) → k.second ≡ second → pair_of first other ≡ Ok k → IsDiskOf (Ok k) false first × IsDiskOf (Ok k) true other
fits_by false k first other side is =
    let opened = opened_pair k first other is in
    let whole = subst (λ (s : Bool). Shows (Ok k) s (if k.second then other else first)) side (whole_shows k.second k.generation k.start k.end k.list (if k.second then other else first) opened.whole) in
    (inl (subst (λ (s : Bool). Shows (Ok k) false (if s then other else first)) side whole), inr (side, subst (λ (s : Bool). IsBelow k.second k.generation (if s then first else other)) side opened.below))
fits_by true k first other side is =
    let opened = opened_pair k first other is in
    let whole = subst (λ (s : Bool). Shows (Ok k) s (if k.second then other else first)) side (whole_shows k.second k.generation k.start k.end k.list (if k.second then other else first) opened.whole) in
    (inr (side, subst (λ (s : Bool). IsBelow k.second k.generation (if s then first else other)) side opened.below), inl (subst (λ (s : Bool). Shows (Ok k) true (if s then other else first)) side whole))

pub fits_pair : (pair : Result Counted DiskPlace) (first second : List ℕ) → IsOurs pair → pair_of first second ≡ pair → IsDiskOf pair false first × IsDiskOf pair true second
fits_pair pair first second ours is =
    let found = fits_by ours.0.second ours.0 first second refl (is ∙ ours.1) in
    (subst (λ (p : Result Counted DiskPlace). IsDiskOf p false first) (sym ours.1) found.0, subst (λ (p : Result Counted DiskPlace). IsDiskOf p true second) (sym ours.1) found.1)

-- So does each image, where all of them stand for it.
module _ {D : Type 0} (seen : D → List ℕ) (may_leave : D → List ℕ → Type 0) (reads_now : (disk : D) → may_leave disk (seen disk))
    (s : State D) (pair : Result Counted DiskPlace) (ours : IsOurs pair) (each : EachImage may_leave s (λ p. p ≡ pair)) where
  pub fits_first : (c : List ℕ) → may_leave (first_disk s) c → IsDiskOf pair false c
  fits_first c now = (fits_pair pair c (seen (second_disk s)) ours (each c (seen (second_disk s)) now (reads_now (second_disk s)))).0

  pub fits_second : (d : List ℕ) → may_leave (second_disk s) d → IsDiskOf pair true d
  fits_second d now = (fits_pair pair (seen (first_disk s)) d ours (each (seen (first_disk s)) d (reads_now (first_disk s)) now)).1

-- What records and a snapshot make of it.
pub beside_record : (payload : List ℕ) (pair : Result Counted DiskPlace) (second : Bool) (c : List ℕ) → LiesBeside (with_record payload pair) second c → LiesBeside pair second c
beside_record payload (Ok k) second c beside = beside
beside_record payload (Err place) second c beside = beside

pub near_record : (payload : List ℕ) (pair : Result Counted DiskPlace) → IsOurs pair → IsNear pair (with_record payload pair)
near_record payload (Ok k) ours = inl (refl, refl)
near_record payload (Err place) ours = absurd (cc ours.1)

pub near_with_record : (payload : List ℕ) (from pair : Result Counted DiskPlace) → IsNear from pair → IsNear from (with_record payload pair)
near_with_record payload (Ok k) (Ok m) near = near
near_with_record payload (Ok k) (Err place) near = near
near_with_record payload (Err place) pair near = absurd near

pub near_snapshot : {D : Type 0} (image : List ℕ) (old new : State D) (pair : Result Counted DiskPlace) → IsAt old pair → new.second ≡ old.second → new.generation ≡ old.generation → IsNear pair (snapshot_of image new)
near_snapshot image old new (Ok k) at side same = inr (ap not (side ∙ sym at.0), ap (λ (n : ℕ). n + 1) (same ∙ sym at.1))
near_snapshot image old new (Err place) at side same = absurd at

pub ours_at : {D : Type 0} (s : State D) (pair : Result Counted DiskPlace) → IsAt s pair → IsOurs pair
ours_at s (Ok k) at = (k, refl)
ours_at s (Err place) at = absurd at

-- A run with at most one snapshot: what two images stand for, each of a moment of its own.
not_itself : (s : Bool) → s ≡ not s → ⊥
not_itself false is = cc is
not_itself true is = cc is

abbrev Same : Result Counted DiskPlace → Result Counted DiskPlace → Type 0
Same a b = a ≡ b

record Older (k : Counted) (Made : Result Counted DiskPlace → Type 0) (bytes : List ℕ) : Type 0 where
  m : Counted
  side : m.second ≡ k.second
  same : m.generation ≡ k.generation
  made : Same (Ok m) (Ok k) ⊎ Made (Ok m)
  shows : Shows (Ok m) k.second bytes

record Newer (k : Counted) (Made : Result Counted DiskPlace → Type 0) (bytes : List ℕ) : Type 0 where
  m : Counted
  side : m.second ≡ not k.second
  next : m.generation ≡ k.generation + 1
  made : Made (Ok m)
  shows : Shows (Ok m) (not k.second) bytes

module _ (k : Counted) (Made : Result Counted DiskPlace → Type 0) (near : (pair : Result Counted DiskPlace) → Made pair → IsNear (Ok k) pair) where
  counting_by : (c : List ℕ) (pair : Result Counted DiskPlace) → Made pair → IsNear (Ok k) pair → Shows pair k.second c → Older k Made c
  counting_by c (Ok m) made (inl same) shows = record { m = m; side = same.0; same = same.1; made = inr made; shows = shows }
  counting_by c (Ok m) made (inr next) shows = absurd (not_itself k.second (sym shows.0 ∙ next.0))
  counting_by c (Err place) made is shows = absurd is

  counting_image : (c : List ℕ) → LeftIn (Ok k) Made k.second c → Older k Made c
  counting_image c (inl (inl shows)) = record { m = k; side = refl; same = refl; made = inl refl; shows = shows }
  counting_image c (inl (inr beside)) = absurd (not_itself k.second beside.0)
  counting_image c (inr made) = counting_by c made.0 made.1 (near made.0 made.1) made.2

  other_by : (d : List ℕ) (pair : Result Counted DiskPlace) → Made pair → IsNear (Ok k) pair → Shows pair (not k.second) d → IsBelow k.second k.generation d ⊎ Newer k Made d
  other_by d (Ok m) made (inl same) shows = absurd (not_itself k.second (sym same.0 ∙ shows.0))
  other_by d (Ok m) made (inr next) shows = inr (record { m = m; side = next.0; next = next.1; made = made; shows = shows })
  other_by d (Err place) made is shows = absurd is

  other_image : (d : List ℕ) → LeftIn (Ok k) Made (not k.second) d → IsBelow k.second k.generation d ⊎ Newer k Made d
  other_image d (inl (inl shows)) = absurd (not_itself k.second shows.0)
  other_image d (inl (inr beside)) = inl beside.1
  other_image d (inr made) = other_by d made.0 made.1 (near made.0 made.1) made.2

  -- the disk that counted first lies below the next generation
  older_below : (c : List ℕ) → Older k Made c → IsBelow (not k.second) (k.generation + 1) c
  older_below c older =
      let made = shows_standing older.m k.second c older.shows in
      inr (record { is_standing = made.is_standing; body = made.body; is_body = made.is_body; is_less = less k.second made.body.generation (made.is_generation ∙ older.same) })
    where
      less : (s : Bool) (g : ℕ) → g ≡ k.generation → IsLess (not s) (k.generation + 1) g
      less true g is = grind (arith, nat_tests)
      less false g is = grind (arith, nat_tests)

  by_other : (c d : List ℕ) → Older k Made c → IsBelow k.second k.generation d ⊎ Newer k Made d → (pair_in k.second c d ≡ Ok k) ⊎ Made (pair_in k.second c d)
  by_other c d older (inl below) =
      let made = shows_standing older.m k.second c older.shows in
      let below_it = subst (λ (g : ℕ). IsBelow k.second g d) (sym older.same) below in
      let is : pair_in k.second c d ≡ Ok older.m = subst (λ (s : Bool). pair_in s c d ≡ Ok older.m) older.side (pair_standing older.m.second older.m.generation older.m.start older.m.end older.m.list c d made (subst (λ (s : Bool). IsBelow s older.m.generation d) (sym older.side) below_it)) in
      ⊎_elim (λ same. inl (is ∙ same)) (λ p. inr (subst Made (sym is) p)) older.made
  by_other c d older (inr newer) =
      let made = shows_standing newer.m (not k.second) d newer.shows in
      let below = subst (λ (g : ℕ). IsBelow (not k.second) g c) (sym newer.next) (older_below c older) in
      let is : pair_in (not k.second) d c ≡ Ok newer.m = subst (λ (s : Bool). pair_in s d c ≡ Ok newer.m) newer.side (pair_standing newer.m.second newer.m.generation newer.m.start newer.m.end newer.m.list d c made (subst (λ (s : Bool). IsBelow s newer.m.generation c) (sym newer.side) below)) in
      inr (subst Made (sym (turned_in k.second c d ∙ is)) newer.made)

  by_side : (s : Bool) (c d : List ℕ) → k.second ≡ s → LeftIn (Ok k) Made false c → LeftIn (Ok k) Made true d → (pair_of c d ≡ Ok k) ⊎ Made (pair_of c d)
  by_side false c d side one two =
      let first = counting_image c (subst (λ (s : Bool). LeftIn (Ok k) Made s c) (sym side) one) in
      let other = other_image d (subst (λ (s : Bool). LeftIn (Ok k) Made (not s) d) (sym side) two) in
      subst (λ (s : Bool). (pair_in s c d ≡ Ok k) ⊎ Made (pair_in s c d)) side (by_other c d first other)
  by_side true c d side one two =
      let first = counting_image d (subst (λ (s : Bool). LeftIn (Ok k) Made s d) (sym side) two) in
      let other = other_image c (subst (λ (s : Bool). LeftIn (Ok k) Made (not s) c) (sym side) one) in
      subst (λ (s : Bool). (pair_in s d c ≡ Ok k) ⊎ Made (pair_in s d c)) side (by_other d c first other)

-- Each stands for what the run began with, or for something that it made.
pub run_pair : (from : Result Counted DiskPlace) (Made : Result Counted DiskPlace → Type 0) → ((pair : Result Counted DiskPlace) → Made pair → IsNear from pair)
    → (c d : List ℕ) → LeftIn from Made false c → LeftIn from Made true d → (pair_of c d ≡ from) ⊎ Made (pair_of c d)
run_pair (Ok k) Made near c d one two = by_side k Made near k.second c d refl one two
run_pair (Err place) Made near c d (inl (inl shows)) two = absurd shows
run_pair (Err place) Made near c d (inl (inr beside)) two = absurd beside
run_pair (Err place) Made near c d (inr made) two = absurd (near made.0 made.1)

-- Of both disks of a journal.
module _ {D : Type 0} (moment : D → ℕ) (left_since : D → ℕ → List ℕ → Type 0) where
  pub run_more : (old new : State D) (Q R : Bool → List ℕ → Type 0) → Adds moment left_since old new Q → ((second : Bool) (c : List ℕ) → Q second c → R second c) → Adds moment left_since old new R
  run_more old new Q R adds more = record {
    first = adds_more moment left_since (first_disk old) (first_disk new) (Q false) (R false) adds.first (more false);
    second = adds_more moment left_since (second_disk old) (second_disk new) (Q true) (R true) adds.second (more true);
  }

  pub run_on : (old mid new : State D) (Q R : Bool → List ℕ → Type 0) → Adds moment left_since old mid Q → Adds moment left_since mid new R → ((second : Bool) (c : List ℕ) → R second c → Q second c) → Adds moment left_since old new Q
  run_on old mid new Q R one two more = record {
    first = adds_on moment left_since (first_disk old) (first_disk mid) (first_disk new) (Q false) (R false) one.first two.first (more false);
    second = adds_on moment left_since (second_disk old) (second_disk mid) (second_disk new) (Q true) (R true) one.second two.second (more true);
  }

  -- a run that begins with a journal whose last call was `Ok`
  pub run_since : (seen : D → List ℕ) (may_leave : D → List ℕ → Type 0) (reads_now : (disk : D) → may_leave disk (seen disk)) (only_now : (disk : D) (c : List ℕ) → left_since disk (moment disk) c → may_leave disk c)
      (old new : State D) (from : Result Counted DiskPlace) (Made : Result Counted DiskPlace → Type 0) → IsOurs from → EachImage may_leave old (λ pair. pair ≡ from) → ((pair : Result Counted DiskPlace) → Made pair → IsNear from pair)
      → Adds moment left_since old new (LeftIn from Made) → EachSince moment left_since old new (λ pair. (pair ≡ from) ⊎ Made pair)
  run_since seen may_leave reads_now only_now old new from Made ours each near adds c d left left_too =
      let one : LeftIn from Made false c = ⊎_elim (λ now. inl (fits_first seen may_leave reads_now old from ours each c now)) (λ q. q)
      (since_begin moment left_since may_leave only_now (first_disk old) (first_disk new) (LeftIn from Made false) adds.first c left) in
      let two : LeftIn from Made true d = ⊎_elim (λ now. inl (fits_second seen may_leave reads_now old from ours each d now)) (λ q. q)
      (since_begin moment left_since may_leave only_now (second_disk old) (second_disk new) (LeftIn from Made true) adds.second d left_too) in
      run_pair from Made near c d one two
