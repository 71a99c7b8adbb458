-- An opening and a call behind it: what each of the two disks may have left since they were handed in, and what any two such images stand for.
use Rattle.std.proofs.Common.{◌≡◌, ◌⊎◌, ◌≤◌, inl, inr, ⊎_elim, ℕ, ◌+◌, Bool, true, false, not, List, Option, Some, Result, Ok, Err, refl, sym, ◌∙◌, ap, subst, arith}
use Rattle.std.specs.Str.{bytes_eq}
use Rattle.std.proofs.lemmas.Bool.Decides.{nat_tests}
use Rattle.std.proofs.lemmas.Slice.Eq.{bytes_eq-Decides}
use Rattle.host_journal.specs.Calls.{IsRead}
use Rattle.host_journal.specs.Moments.{Adds, AddsOnly, IsDiskOf, IsNear, LeftIn, LiesBeside, Shows}
use Rattle.host_journal.specs.Pair.{pair_of}
use Rattle.host_journal.specs.State.{State, EachImage, IsBelow, IsLess, IsOurs, first_disk, pair_in, second_disk, stored}
use Rattle.host_journal.specs.declared.reading.Counted.{Counted}
use Rattle.host_journal.specs.declared.reading.DiskPlace.{DiskPlace}
use Rattle.host_journal.proofs.MomentLemmas.{adds_more, adds_on, adds_then, fits_first, fits_pair, fits_second, read_adds, run_more, run_pair, run_since, since_begin}
use Rattle.machine_keep.specs.Kept.{IsMade, IsMigrating, IsStepMade, StandsEither, StandsFor}
use Rattle.machine_keep.specs.Opening.{AreBetween, EachUnlessUndone, IsBegun, IsUndone, StandsAsBefore, StandsThrough}

-- ---- one image of each disk
-- of a run, where the first image is of the disk on this side
sided : (s : Bool) (from : Result Counted DiskPlace) (Made : Result Counted DiskPlace → Type 0) → ((pair : Result Counted DiskPlace) → Made pair → IsNear from pair)
    → (x y : List ℕ) → LeftIn from Made s x → LeftIn from Made (not s) y → (pair_in s x y ≡ from) ⊎ Made (pair_in s x y)
sided false from Made near x y one two = run_pair from Made near x y one two
sided true from Made near x y one two = run_pair from Made near y x two one

not_itself : (s : Bool) → s ≡ not s → ⊥
not_itself false is = cc is
not_itself true is = cc is

twice : (s : Bool) → not (not s) ≡ s
twice false = refl
twice true = refl

either_side : (a s : Bool) → (a ≡ s) ⊎ (a ≡ not s)
either_side false false = inl refl
either_side true true = inl refl
either_side false true = inr refl
either_side true false = inr refl

-- what lies below a generation lies below a later one
less_later : (s : Bool) (k n g : ℕ) → k ≤ n → IsLess s k g → IsLess s n g
less_later false k n g le less = grind (arith, nat_tests)
less_later true k n g le less = grind (arith, nat_tests)

below_later : (s : Bool) (k n : ℕ) (c : List ℕ) → k ≤ n → IsBelow s k c → IsBelow s n c
below_later s k n c le (inl closed) = inl closed
below_later s k n c le (inr older) = inr (record { is_standing = older.is_standing; body = older.body; is_body = older.is_body; is_less = less_later s k n older.body.generation le older.is_less })

module _ (Q : Result Counted DiskPlace → Type 0) where
  -- what two images stand for has Q
  run : (s : Bool) (from : Result Counted DiskPlace) (Made : Result Counted DiskPlace → Type 0) → ((pair : Result Counted DiskPlace) → Made pair → IsNear from pair) → Q from → ((pair : Result Counted DiskPlace) → Made pair → Q pair)
      → (x y : List ℕ) → LeftIn from Made s x → LeftIn from Made (not s) y → Q (pair_in s x y)
  run s from Made near now made x y one two = ⊎_elim (λ is. subst Q (sym is) now) (λ it. made (pair_in s x y) it) (sided s from Made near x y one two)

  module _ (k m : Counted) (Made More : Result Counted DiskPlace → Type 0) (near : (pair : Result Counted DiskPlace) → Made pair → IsNear (Ok k) pair) (near_more : (pair : Result Counted DiskPlace) → More pair → IsNear (Ok m) pair)
      (at_k : Q (Ok k)) (at_m : Q (Ok m)) (made : (pair : Result Counted DiskPlace) → Made pair → Q pair) (more : (pair : Result Counted DiskPlace) → More pair → Q pair) where
    -- of both runs, what is near the first
    abbrev Early : Result Counted DiskPlace → Type 0
    Early pair = Q pair × IsNear (Ok k) pair

    -- and what is near the second
    abbrev Late : Result Counted DiskPlace → Type 0
    Late pair = Q pair × IsNear (Ok m) pair

    early : (s : Bool) (x : List ℕ) → LeftIn (Ok k) Made s x → LeftIn (Ok k) Early s x
    early s x (inl fits) = inl fits
    early s x (inr it) = inr (it.0, (made it.0 it.1, near it.0 it.1), it.2)

    late : (s : Bool) (y : List ℕ) → LeftIn (Ok m) More s y → LeftIn (Ok m) Late s y
    late s y (inl fits) = inl fits
    late s y (inr it) = inr (it.0, (more it.0 it.1, near_more it.0 it.1), it.2)

    in_early : (s : Bool) (x y : List ℕ) → LeftIn (Ok k) Early s x → LeftIn (Ok k) Early (not s) y → Q (pair_in s x y)
    in_early s x y one two = run s (Ok k) Early (λ pair it. it.1) at_k (λ pair it. it.0) x y one two

    in_late : (s : Bool) (x y : List ℕ) → LeftIn (Ok m) Late s x → LeftIn (Ok m) Late (not s) y → Q (pair_in s x y)
    in_late s x y one two = run s (Ok m) Late (λ pair it. it.1) at_m (λ pair it. it.0) x y one two

    -- the first run made no snapshot
    module _ (side : m.second ≡ k.second) (same : m.generation ≡ k.generation) where
      near_still : (pair : Result Counted DiskPlace) → IsNear (Ok m) pair → IsNear (Ok k) pair
      near_still (Ok n) (inl it) = inl (it.0 ∙ side, it.1 ∙ same)
      near_still (Ok n) (inr it) = inr (it.0 ∙ ap not side, it.1 ∙ ap (λ (g : ℕ). g + 1) same)
      near_still (Err place) it = it

      still : (s : Bool) (y : List ℕ) → LeftIn (Ok m) More s y → LeftIn (Ok k) Early s y
      still s y (inl (inl shows)) = inr (Ok m, (at_m, inl (side, same)), shows)
      still s y (inl (inr beside)) = inl (inr (sym side ∙ beside.0, subst (λ (b : Bool). IsBelow b k.generation y) side (subst (λ (g : ℕ). IsBelow m.second g y) same beside.1)))
      still s y (inr it) = inr (it.0, (more it.0 it.1, near_still it.0 (near_more it.0 it.1)), it.2)

      pub mixed_still : (s : Bool) (x y : List ℕ) → LeftIn (Ok k) Made s x → LeftIn (Ok m) More (not s) y → Q (pair_in s x y)
      mixed_still s x y one two = in_early s x y (early s x one) (still (not s) y two)

    -- it made one
    module _ (side : m.second ≡ not k.second) (next : m.generation ≡ k.generation + 1) where
      -- the second image is of the disk that counts from then on
      turned_early : (s : Bool) (y : List ℕ) → k.second ≡ s → LeftIn (Ok m) More (not s) y → LeftIn (Ok k) Early (not s) y
      turned_early s y is (inl (inl shows)) = inr (Ok m, (at_m, inr (side, next)), shows)
      turned_early s y is (inl (inr beside)) = absurd (not_itself s (sym (twice s) ∙ (sym beside.0 ∙ (side ∙ ap not is))))
      turned_early s y is (inr it) = at it.0 (more it.0 it.1) (near_more it.0 it.1) it.2
        where
          at : (pair : Result Counted DiskPlace) → Q pair → IsNear (Ok m) pair → Shows pair (not s) y → LeftIn (Ok k) Early (not s) y
          at (Ok n) q (inl near_it) shows = inr (Ok n, (q, inr (near_it.0 ∙ side, near_it.1 ∙ next)), shows)
          at (Ok n) q (inr near_it) shows = absurd (not_itself s (sym is ∙ (sym (twice k.second) ∙ (ap not (sym side) ∙ (sym near_it.0 ∙ shows.0)))))
          at (Err place) q near_it shows = absurd shows

      -- the first image is of that disk
      seen_late : (s : Bool) (x : List ℕ) → k.second ≡ not s → LeftIn (Ok k) Made s x → LiesBeside (Ok k) s x ⊎ LeftIn (Ok m) Late s x
      seen_late s x is (inl (inl shows)) = absurd (not_itself s (sym shows.0 ∙ is))
      seen_late s x is (inl (inr beside)) = inl beside
      seen_late s x is (inr it) = at it.0 (made it.0 it.1) (near it.0 it.1) it.2
        where
          at : (pair : Result Counted DiskPlace) → Q pair → IsNear (Ok k) pair → Shows pair s x → LiesBeside (Ok k) s x ⊎ LeftIn (Ok m) Late s x
          at (Ok n) q (inl near_it) shows = absurd (not_itself s (sym shows.0 ∙ (near_it.0 ∙ is)))
          at (Ok n) q (inr near_it) shows = inr (inr (Ok n, (q, inl (near_it.0 ∙ sym side, near_it.1 ∙ sym next)), shows))
          at (Err place) q near_it shows = absurd shows

      beside_late : (s : Bool) (x y : List ℕ) → k.second ≡ not s → LiesBeside (Ok k) s x → LeftIn (Ok m) More (not s) y → Q (pair_in s x y) ⊎ (LiesBeside (Ok k) s x × LiesBeside (Ok m) (not s) y)
      beside_late s x y is beside (inl (inl shows)) = absurd (not_itself s (sym (sym shows.0 ∙ (side ∙ (ap not is ∙ twice s)))))
      beside_late s x y is beside (inl (inr lies)) = inr (beside, lies)
      beside_late s x y is beside (inr it) = inl (at it.0 (more it.0 it.1) (near_more it.0 it.1) it.2)
        where
          at : (pair : Result Counted DiskPlace) → Q pair → IsNear (Ok m) pair → Shows pair (not s) y → Q (pair_in s x y)
          at (Ok n) q (inl near_it) shows = absurd (not_itself s (sym (sym shows.0 ∙ (near_it.0 ∙ (side ∙ (ap not is ∙ twice s))))))
          at (Ok n) q (inr near_it) shows =
              let turned : n.second ≡ k.second = near_it.0 ∙ (ap not side ∙ twice k.second) in
              let later : k.generation ≤ n.generation = omega (arith, near_it.1, next) in
              let below : IsBelow n.second n.generation x = subst (λ (b : Bool). IsBelow b n.generation x) (sym turned) (below_later k.second k.generation n.generation x later beside.1) in
              run s (Ok n) (λ pair. ⊥) (λ pair never. absurd never) q (λ pair never. absurd never) x y (inl (inr (turned ∙ is, below))) (inl (inl shows))
          at (Err place) q near_it shows = absurd shows

      pub mixed_turned : (s : Bool) (x y : List ℕ) → LeftIn (Ok k) Made s x → LeftIn (Ok m) More (not s) y → Q (pair_in s x y) ⊎ (LiesBeside (Ok k) s x × LiesBeside (Ok m) (not s) y)
      mixed_turned s x y one two = ⊎_elim (λ is. inl (in_early s x y (early s x one) (turned_early s y is two)))
          (λ is. ⊎_elim (λ beside. beside_late s x y is beside two) (λ x_late. inl (in_late s x y x_late (late (not s) y two))) (seen_late s x is one)) (either_side k.second s)

  -- the first image is of the first run, the second of the other
  mixed : (from made : Result Counted DiskPlace) (Made More : Result Counted DiskPlace → Type 0) → IsOurs from → (made ≡ from) ⊎ IsNear from made → ((pair : Result Counted DiskPlace) → Made pair → IsNear from pair) → ((pair : Result Counted DiskPlace) → More pair → IsNear made pair)
      → Q from → Q made → ((pair : Result Counted DiskPlace) → Made pair → Q pair) → ((pair : Result Counted DiskPlace) → More pair → Q pair)
      → (s : Bool) (x y : List ℕ) → LeftIn from Made s x → LeftIn made More (not s) y → Q (pair_in s x y) ⊎ (LiesBeside from s x × LiesBeside made (not s) y)
  mixed (Ok k) (Ok m) Made More ours (inl is) near near_more at_k at_m q_made q_more s x y one two = inl (mixed_still k m Made More near near_more at_k at_m q_made q_more (cc is) (cc is) s x y one two)
  mixed (Ok k) (Ok m) Made More ours (inr (inl it)) near near_more at_k at_m q_made q_more s x y one two = inl (mixed_still k m Made More near near_more at_k at_m q_made q_more it.0 it.1 s x y one two)
  mixed (Ok k) (Ok m) Made More ours (inr (inr it)) near near_more at_k at_m q_made q_more s x y one two = mixed_turned k m Made More near near_more at_k at_m q_made q_more it.0 it.1 s x y one two
  mixed (Ok k) (Err place) Made More ours (inl is) near near_more at_k at_m q_made q_more s x y one two = cc is
  mixed (Ok k) (Err place) Made More ours (inr it) near near_more at_k at_m q_made q_more s x y one two = absurd it
  mixed (Err place) made Made More ours is near near_more at_k at_m q_made q_more s x y one two = absurd (cc ours.1)

  -- of two runs, whichever of them each image is of; of one of the second run something more is known
  pub joined : (from made : Result Counted DiskPlace) (Made More : Result Counted DiskPlace → Type 0) → IsOurs from → (made ≡ from) ⊎ IsNear from made → ((pair : Result Counted DiskPlace) → Made pair → IsNear from pair) → ((pair : Result Counted DiskPlace) → More pair → IsNear made pair)
      → Q from → Q made → ((pair : Result Counted DiskPlace) → Made pair → Q pair) → ((pair : Result Counted DiskPlace) → More pair → Q pair)
      → (c d : List ℕ) (N M : Type 0) → LeftIn from Made false c ⊎ (LeftIn made More false c × N) → LeftIn from Made true d ⊎ (LeftIn made More true d × M)
      → Q (pair_of c d) ⊎ ((LiesBeside from false c × (LiesBeside made true d × M)) ⊎ ((LiesBeside made false c × N) × LiesBeside from true d))
  joined from made Made More ours is near near_more at_from at_made q_made q_more c d N M (inl one) (inl two) = inl (run false from Made near at_from q_made c d one two)
  joined from made Made More ours is near near_more at_from at_made q_made q_more c d N M (inr one) (inr two) = inl (run false made More near_more at_made q_more c d one.0 two.0)
  joined from made Made More ours is near near_more at_from at_made q_made q_more c d N M (inl one) (inr two) =
      ⊎_elim (λ q. inl q) (λ lie. inr (inl (lie.0, (lie.1, two.1)))) (mixed from made Made More ours is near near_more at_from at_made q_made q_more false c d one two.0)
  joined from made Made More ours is near near_more at_from at_made q_made q_more c d N M (inr one) (inl two) =
      ⊎_elim (λ q. inl q) (λ lie. inr (inr ((lie.1, one.1), lie.0))) (mixed from made Made More ours is near near_more at_from at_made q_made q_more true d c two one.0)

-- ---- since the disks were handed in
same_bytes : (xs ys : List ℕ) → (xs ≡ ys) ⊎ (xs ≡ ys → ⊥)
same_bytes xs ys = at (bytes_eq xs ys) refl
  where
    at : (b : Bool) → bytes_eq xs ys ≡ b → (xs ≡ ys) ⊎ (xs ≡ ys → ⊥)
    at true is = inl ((bytes_eq-Decides xs ys).0 is)
    at false is = inr (λ same. cc (is, (bytes_eq-Decides xs ys).1 same))

-- what a pair stands for for which there is a state is one of ours
pub ours_either : {S : Type 0} (stands stood : List (List ℕ) → S → Type 0) (s : S) (pair : Result Counted DiskPlace) → StandsEither stands stood s pair → IsOurs pair
ours_either stands stood s (Ok k) either = (k, refl)
ours_either stands stood s (Err place) either = absurd (⊎_elim (λ never. never) (λ never. never) either)

module _ {D : Type 0} (seen : D → List ℕ) (may_leave : D → List ℕ → Type 0) (moment : D → ℕ) (left_since : D → ℕ → List ℕ → Type 0) (only_now : (disk : D) (c : List ℕ) → left_since disk (moment disk) c → may_leave disk c) where
  -- of one disk: what it could have left before is undone, or it is what the disk reads
  unless_undone : (disk now : D) (Q : List ℕ → Type 0) → Q (seen disk) → AddsOnly moment left_since disk now Q → (c : List ℕ) → left_since now (moment disk) c → IsUndone seen may_leave disk c ⊎ Q c
  unless_undone disk now Q fits adds c left =
      ⊎_elim (λ before. ⊎_elim (λ is. inr (subst Q (sym is) fits)) (λ other. inl (before, other)) (same_bytes c (seen disk))) (λ q. inr q) (since_begin moment left_since may_leave only_now disk now Q adds c left)

  -- of both, over whichever they are left as
  pub each_unless : (first second first_now second_now : D) (Q R : List ℕ → Type 0) (P : List ℕ → List ℕ → Type 0) → Q (seen first) → R (seen second) → AddsOnly moment left_since first first_now Q → AddsOnly moment left_since second second_now R
      → ((c d : List ℕ) → Q c → R d → P c d) → EachUnlessUndone seen may_leave moment left_since first second first_now second_now P
  each_unless first second first_now second_now Q R P fits fits_too adds adds_too both c d left left_too =
      ⊎_elim (λ undone. inl (inl undone)) (λ q. ⊎_elim (λ undone. inl (inr undone)) (λ r. inr (both c d q r)) (unless_undone second second_now R fits_too adds_too d left_too)) (unless_undone first first_now Q fits adds c left)

  module _ {S : Type 0} (stands stood : List (List ℕ) → S → Type 0) (first second : D) where
    abbrev From : Result Counted DiskPlace
    From = pair_of (seen first) (seen second)

    abbrev Made : S → Result Counted DiskPlace → Type 0
    Made s = IsMade stands From s

    -- an opening that gave a machine
    pub begun : (reads_now : (disk : D) → may_leave disk (seen disk)) (counts_now : (disk : D) (t : ℕ) (c : List ℕ) → t ≤ moment disk → may_leave disk c → left_since disk t c)
        (mid new : State D) (s : S) → IsRead seen may_leave moment left_since first (first_disk mid) → IsRead seen may_leave moment left_since second (second_disk mid)
        → stored seen mid ≡ From → EachImage may_leave mid (λ pair. pair ≡ From) → StandsEither stands stood s (stored seen mid)
        → Adds moment left_since mid new (LeftIn (stored seen mid) (IsMade stands (stored seen mid) s)) → IsBegun seen moment left_since stands first second s new
    begun reads_now counts_now mid new s one two is each either adds =
        let moved = subst (λ (p : Result Counted DiskPlace). Adds moment left_since mid new (LeftIn p (IsMade stands p s))) is adds in
        let ours = ours_either stands stood s From (subst (StandsEither stands stood s) is either) in
        record {
          adds_first = adds_on moment left_since first (first_disk mid) (first_disk new) (LeftIn From (Made s) false) (LeftIn From (Made s) false)
              (read_adds moment left_since seen may_leave counts_now first (first_disk mid) (LeftIn From (Made s) false) one) moved.first (λ c q. q);
          adds_second = adds_on moment left_since second (second_disk mid) (second_disk new) (LeftIn From (Made s) true) (LeftIn From (Made s) true)
              (read_adds moment left_since seen may_leave counts_now second (second_disk mid) (LeftIn From (Made s) true) two) moved.second (λ c q. q);
          at = run_since moment left_since seen may_leave reads_now only_now mid new From (Made s) ours each (λ pair made. made.1) moved (seen (first_disk new)) (seen (second_disk new))
              (counts_now (first_disk new) (moment (first_disk mid)) (seen (first_disk new)) moved.first.later (reads_now (first_disk new)))
              (counts_now (second_disk new) (moment (second_disk mid)) (seen (second_disk new)) moved.second.later (reads_now (second_disk new)));
        }

    pub given : (now : State D) (s : S) → IsBegun seen moment left_since stands first second s now → StandsEither stands stood s From
        → EachUnlessUndone seen may_leave moment left_since first second (first_disk now) (second_disk now) (λ c d. StandsEither stands stood s (pair_of c d))
    given now s begun either =
        let fit = fits_pair From (seen first) (seen second) (ours_either stands stood s From either) refl in
        each_unless first second (first_disk now) (second_disk now) (LeftIn From (Made s) false) (LeftIn From (Made s) true) (λ c d. StandsEither stands stood s (pair_of c d)) (inl fit.0) (inl fit.1) begun.adds_first begun.adds_second
        (λ c d one two. run (StandsEither stands stood s) false From (Made s) (λ pair made. made.1) either (λ pair made. inl made.0) c d one two)

    -- one that was refused
    pub not_given : (counts_now : (disk : D) (t : ℕ) (c : List ℕ) → t ≤ moment disk → may_leave disk c → left_since disk t c)
        (first_now second_now : D) → IsRead seen may_leave moment left_since first first_now → IsRead seen may_leave moment left_since second second_now
        → EachUnlessUndone seen may_leave moment left_since first second first_now second_now (λ c d. StandsAsBefore stands stood From (pair_of c d))
    not_given counts_now first_now second_now one two =
        each_unless first second first_now second_now (λ c. c ≡ seen first) (λ d. d ≡ seen second) (λ c d. StandsAsBefore stands stood From (pair_of c d)) refl refl
        (read_adds moment left_since seen may_leave counts_now first first_now (λ c. c ≡ seen first) one) (read_adds moment left_since seen may_leave counts_now second second_now (λ d. d ≡ seen second) two)
        (λ c d is is_too. inl (ap (λ (x : List ℕ). pair_of x d) is ∙ ap (pair_of (seen first)) is_too))

    pub not_written : (counts_now : (disk : D) (t : ℕ) (c : List ℕ) → t ≤ moment disk → may_leave disk c → left_since disk t c)
        (mid : State D) (first_now second_now : D) → IsRead seen may_leave moment left_since first (first_disk mid) → IsRead seen may_leave moment left_since second (second_disk mid) → stored seen mid ≡ From
        → ((first_now ≡ first_disk mid) × (second_now ≡ second_disk mid)) ⊎ IsMigrating seen moment left_since stands stood mid first_now second_now
        → EachUnlessUndone seen may_leave moment left_since first second first_now second_now (λ c d. StandsAsBefore stands stood From (pair_of c d))
    not_written counts_now mid first_now second_now one two is (inl same) =
        not_given counts_now first_now second_now (subst (IsRead seen may_leave moment left_since first) (sym same.0) one) (subst (IsRead seen may_leave moment left_since second) (sym same.1) two)
    not_written counts_now mid first_now second_now one two is (inr m) =
        let s = m.state in
        let either = subst (StandsEither stands stood s) is m.either in
        let fit = fits_pair From (seen first) (seen second) (ours_either stands stood s From either) refl in
        let adds = subst (λ (p : Result Counted DiskPlace). AddsOnly moment left_since (first_disk mid) first_now (LeftIn p (IsMade stands p s) false)) is m.adds_first in
        let adds_too = subst (λ (p : Result Counted DiskPlace). AddsOnly moment left_since (second_disk mid) second_now (LeftIn p (IsMade stands p s) true)) is m.adds_second in
        each_unless first second first_now second_now (LeftIn From (Made s) false) (LeftIn From (Made s) true) (λ c d. StandsAsBefore stands stood From (pair_of c d)) (inl fit.0) (inl fit.1)
        (adds_on moment left_since first (first_disk mid) first_now (LeftIn From (Made s) false) (LeftIn From (Made s) false) (read_adds moment left_since seen may_leave counts_now first (first_disk mid) (LeftIn From (Made s) false) one) adds (λ c q. q))
        (adds_on moment left_since second (second_disk mid) second_now (LeftIn From (Made s) true) (LeftIn From (Made s) true) (read_adds moment left_since seen may_leave counts_now second (second_disk mid) (LeftIn From (Made s) true) two) adds_too (λ d q. q))
        (λ c d left left_too. run (StandsAsBefore stands stood From) false From (Made s) (λ pair made. made.1) (inl refl) (λ pair made. inr (s, (either, inl made.0))) c d left left_too)

    -- one that gave a machine, and a call behind it
    module _ (reads_now : (disk : D) → may_leave disk (seen disk)) (mid : State D) (s later : S) (begun : IsBegun seen moment left_since stands first second s mid) (either : StandsEither stands stood s From)
        (stood_so : StandsFor stands s (stored seen mid)) (each : EachImage may_leave mid (λ pair. pair ≡ stored seen mid)) (first_now second_now : D)
        (adds : AddsOnly moment left_since (first_disk mid) first_now (LeftIn (stored seen mid) (IsMade stands (stored seen mid) later) false)) (adds_too : AddsOnly moment left_since (second_disk mid) second_now (LeftIn (stored seen mid) (IsMade stands (stored seen mid) later) true)) where
      abbrev Then : Result Counted DiskPlace → Type 0
      Then = IsMade stands (stored seen mid) later

      since_given : (c d : List ℕ) → left_since first_now (moment (first_disk mid)) c → left_since second_now (moment (second_disk mid)) d → StandsFor stands s (pair_of c d) ⊎ StandsFor stands later (pair_of c d)
      since_given c d left left_too =
          let ours = ours_either stands stood s (stored seen mid) (inl stood_so) in
          let one : LeftIn (stored seen mid) Then false c = ⊎_elim (λ now. inl (fits_first seen may_leave reads_now mid (stored seen mid) ours each c now)) (λ q. q)
          (since_begin moment left_since may_leave only_now (first_disk mid) first_now (LeftIn (stored seen mid) Then false) adds c left) in
          let two : LeftIn (stored seen mid) Then true d = ⊎_elim (λ now. inl (fits_second seen may_leave reads_now mid (stored seen mid) ours each d now)) (λ q. q)
          (since_begin moment left_since may_leave only_now (second_disk mid) second_now (LeftIn (stored seen mid) Then true) adds_too d left_too) in
          run (λ pair. StandsFor stands s pair ⊎ StandsFor stands later pair) false (stored seen mid) Then (λ pair made. made.1) (inl stood_so) (λ pair made. inr made.0) c d one two

      -- of an image of the call it is known that the disk didn't read it as it was handed in
      abbrev OfFirst : List ℕ → Type 0
      OfFirst c = LeftIn From (Made s) false c ⊎ (LeftIn (stored seen mid) Then false c × (c ≡ seen first → ⊥))

      abbrev OfSecond : List ℕ → Type 0
      OfSecond d = LeftIn From (Made s) true d ⊎ (LeftIn (stored seen mid) Then true d × (d ≡ seen second → ⊥))

      whole_given : EachUnlessUndone seen may_leave moment left_since first second first_now second_now
          (λ c d. (StandsEither stands stood s (pair_of c d) ⊎ StandsFor stands later (pair_of c d)) ⊎ AreBetween (seen first) (seen second) From (stored seen mid) c d)
      whole_given =
          let ours = ours_either stands stood s From either in
          let fit = fits_pair From (seen first) (seen second) ours refl in
          let one : AddsOnly moment left_since first first_now OfFirst = adds_more moment left_since first first_now (λ c. LeftIn From (Made s) false c ⊎ LeftIn (stored seen mid) Then false c) OfFirst
          (adds_then moment left_since first (first_disk mid) first_now (LeftIn From (Made s) false) (LeftIn (stored seen mid) Then false) begun.adds_first adds)
          (λ c. ⊎_elim (λ q. inl q) (λ r. ⊎_elim (λ is. inl (inl (subst (IsDiskOf From false) (sym is) fit.0))) (λ other. inr (r, other)) (same_bytes c (seen first)))) in
          let two : AddsOnly moment left_since second second_now OfSecond = adds_more moment left_since second second_now (λ d. LeftIn From (Made s) true d ⊎ LeftIn (stored seen mid) Then true d) OfSecond
          (adds_then moment left_since second (second_disk mid) second_now (LeftIn From (Made s) true) (LeftIn (stored seen mid) Then true) begun.adds_second adds_too)
          (λ d. ⊎_elim (λ q. inl q) (λ r. ⊎_elim (λ is. inl (inl (subst (IsDiskOf From true) (sym is) fit.1))) (λ other. inr (r, other)) (same_bytes d (seen second)))) in
          each_unless first second first_now second_now OfFirst OfSecond
          (λ c d. (StandsEither stands stood s (pair_of c d) ⊎ StandsFor stands later (pair_of c d)) ⊎ AreBetween (seen first) (seen second) From (stored seen mid) c d) (inl (inl fit.0)) (inl (inl fit.1)) one two
          (λ c d q r. joined (λ pair. StandsEither stands stood s pair ⊎ StandsFor stands later pair) From (stored seen mid) (Made s) Then ours (⊎_elim (λ is. inl is) (λ made. inr made.1) begun.at) (λ pair made. made.1) (λ pair made. made.1)
          (inl either) (inl (inl stood_so)) (λ pair made. inl (inl made.0)) (λ pair made. inr made.0) c d (c ≡ seen first → ⊥) (d ≡ seen second → ⊥) q r)

      pub through : (goes : D → D → Type 0) → goes first (first_disk mid) × goes second (second_disk mid) → goes (first_disk mid) first_now × goes (second_disk mid) second_now
          → StandsThrough seen may_leave moment left_since goes stands stood first second s later first_now second_now
      through goes opened called = record { mid = mid; opened = opened; called = called; until = given mid s begun either; since = since_given; whole = whole_given }

-- what a call that was decided adds, as the step that it asked for
pub adds_asked : {D S C R T : Type 0} (moment : D → ℕ) (left_since : D → ℕ → List ℕ → Type 0) (seen : D → List ℕ) (stands : List (List ℕ) → S → Type 0) (answers : S → C → R → Option T → Type 0) (after : S → T → S)
    (s now : S) (call : C) (reply : R) (decided : Option T) → answers now call reply decided → now ≡ s → (old mid new : State D) → mid ≡ old
    → Adds moment left_since mid new (LeftIn (stored seen mid) (λ pair. (step : T) × ((decided ≡ Some step) × IsMade stands (stored seen mid) (after now step) pair)))
    → Adds moment left_since old new (LeftIn (stored seen old) (IsStepMade stands answers after (stored seen old) s call))
adds_asked {D = D} {S = S} {T = T} moment left_since seen stands answers after s now call reply decided answered became old mid new same adds =
    subst (λ (x : S). Adds moment left_since old new (LeftIn (stored seen old) (IsStepMade stands answers after (stored seen old) x call))) became
    (subst (λ (m : State D). Adds moment left_since m new (LeftIn (stored seen m) (IsStepMade stands answers after (stored seen m) now call))) same
    (run_more moment left_since mid new (LeftIn (stored seen mid) (λ pair. (step : T) × ((decided ≡ Some step) × IsMade stands (stored seen mid) (after now step) pair))) (LeftIn (stored seen mid) (IsStepMade stands answers after (stored seen mid) now call)) adds (λ second c. ⊎_elim
    (λ fits. inl fits)
    (λ made. inr (made.0, (reply, (made.1.0, (subst (answers now call reply) made.1.1.0 answered, made.1.1.1))), made.2)))))
