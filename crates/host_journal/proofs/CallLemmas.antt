-- How a run of calls on one disk goes on: its images at every moment, and the calls that it tells.
use Rattle.std.proofs.Common.{◌≡◌, inl, inr, ⊎_elim, ℕ, ◌+◌, ◌≤◌, List, ◌++◌, length, take, drop, sym, ◌∙◌, ap, subst, arith, append_assoc, length-append, length-take, length-drop}
use Rattle.std.specs.Prelude.{Option, Some, None, Result, Ok, Err, OnErr}
use Rattle.std.proofs.Math.Seq.{take-add}
use Rattle.ps_disks.specs.Disk.{Follows, NoMore, Elapses, LeavesOnly, ReadsAt}
use Rattle.ps_disks.specs.declared.disk.DiskCall.{DiskCall}
use Rattle.ps_disks.proofs.DiskLemmas.{leaves_at_first, leaves_after_call}
use Rattle.host_journal.specs.Calls.{PartAfter, IsRead}
use Rattle.host_journal.specs.Told.{TellsAll}

module _ {D : Type 0} (seen : D → List ℕ) (may_leave : D → List ℕ → Type 0) (moment : D → ℕ) (left_since : D → ℕ → List ℕ → Type 0) where
  -- after a write or a cut, of which nothing at all is a part too
  pub after_part : (old new : D) (step : List ℕ → List ℕ → Type 0) → ((c : List ℕ) → step c c) → ((c : List ℕ) → left_since old (moment old) c → may_leave old c)
      → Follows step (may_leave old) (may_leave new) → Elapses (moment old) (moment new) (left_since old) (left_since new) (may_leave new) → LeavesOnly moment left_since old new (PartAfter step (may_leave old))
  after_part old new step nothing only follows time =
      let first = leaves_at_first moment left_since old (PartAfter step (may_leave old)) (λ c left. (c, only c left, nothing c)) in
      leaves_after_call moment left_since old old new (PartAfter step (may_leave old)) (may_leave new) first time (λ c now. follows c now)

  -- and then a sync or a read
  pub after_sync : (old mid new : D) (P : List ℕ → Type 0) → LeavesOnly moment left_since old mid P → ((c : List ℕ) → may_leave mid c → P c)
      → NoMore (may_leave mid) (may_leave new) → Elapses (moment mid) (moment new) (left_since mid) (left_since new) (may_leave new) → LeavesOnly moment left_since old new P
  after_sync old mid new P so_far here no_more time =
      leaves_after_call moment left_since old mid new P (may_leave new) so_far time (λ c now. here c (no_more c now))

  pub read_on : (old mid new : D) → IsRead seen may_leave moment left_since old mid → seen new ≡ seen mid → NoMore (may_leave mid) (may_leave new)
      → Elapses (moment mid) (moment new) (left_since mid) (left_since new) (may_leave new) → IsRead seen may_leave moment left_since old new
  read_on old mid new so_far same no_more time = record {
    same = same ∙ so_far.same;
    images = λ c now. so_far.images c (no_more c now);
    moments = after_sync old mid new (may_leave old) so_far.moments so_far.images no_more time;
  }

  -- two runs, one after the other
  pub leaves_on : (old mid new : D) (P Q : List ℕ → Type 0) → LeavesOnly moment left_since old mid P → LeavesOnly moment left_since mid new Q → ((c : List ℕ) → Q c → P c) → LeavesOnly moment left_since old new P
  leaves_on old mid new P Q one two in_P = record {
    later = omega (arith, one.later, two.later);
    each = λ c left. ⊎_elim (one.each c) (λ q. in_P c q) (two.before (moment old) c one.later left);
    before = λ t c le left. ⊎_elim (one.before t c le) (λ q. inr (in_P c q)) (two.before t c (omega (arith, le, one.later)) left);
  }

  pub read_then : (old mid new : D) → IsRead seen may_leave moment left_since old mid → IsRead seen may_leave moment left_since mid new → IsRead seen may_leave moment left_since old new
  read_then old mid new one two = record {
    same = two.same ∙ one.same;
    images = λ c now. one.images c (two.images c now);
    moments = leaves_on old mid new (may_leave old) (may_leave mid) one.moments two.moments one.images;
  }

-- the same moments, and more may be said of them
pub leaves_more : {D : Type 0} (moment : D → ℕ) (left_since : D → ℕ → List ℕ → Type 0) (old new : D) (P Q : List ℕ → Type 0) → LeavesOnly moment left_since old new P → ((c : List ℕ) → P c → Q c) → LeavesOnly moment left_since old new Q
leaves_more moment left_since old new P Q so_far more = record {
  later = so_far.later;
  each = λ c left. more c (so_far.each c left);
  before = λ t c le left. ⊎_elim (λ past. inl past) (λ p. inr (more c p)) (so_far.before t c le left);
}

-- a fact that holds in any case holds where the answer is `Err`
pub on_err : {T E : Type 0} (P : Type 0) (r : Result T E) → P → OnErr r P
on_err P (Ok x) p = tt
on_err P (Err e) p = p

pub tells_on : (a b c : Option (List DiskCall)) (xs ys : List DiskCall) → TellsAll a b xs → TellsAll b c ys → TellsAll a c (xs ++ ys)
tells_on a b None xs ys one two = tt
tells_on a (Some mid) (Some calls) xs ys one two =
    let same : mid ≡ two.0 = cc two.1 in
    (one.0, one.1, two.2 ∙ ap (λ (l : List DiskCall). l ++ ys) (sym same ∙ one.2) ∙ append_assoc one.0 xs ys)
tells_on a None (Some calls) xs ys one two = absurd (cc two.1)

-- The front of a file, and the bytes behind it that a read gave.
pub record ReadSoFar (file all : List ℕ) : Type 0 where
  pub front : all ≡ take (length all) file
  pub within : length all ≤ length file

pub read_more : (file all buf : List ℕ) (n : ℕ) → ReadSoFar file all → ReadsAt file (length all) buf n → n ≤ length buf → ReadSoFar file (all ++ take n buf)
read_more file all buf n so_far reads fits =
    let count : length (take n buf) ≡ n = omega (arith, length-take n buf, fits) in
    let fits_file : length all + n ≤ length file = omega (arith, reads.within, so_far.within) in
    let sum : length (all ++ take n buf) ≡ length all + n = omega (arith, length-append all (take n buf), count) in
    let split : take (length all + n) file ≡ take (length all) file ++ take n (drop (length all) file) = take-add (length all) n file in
    record {
      front = ap (λ (l : List ℕ). l ++ take n buf) so_far.front ∙ ap (λ (l : List ℕ). take (length all) file ++ l) reads.bytes ∙ sym split ∙ ap (λ (k : ℕ). take k file) (sym sum);
      within = omega (arith, sum, fits_file);
    }

-- the same into a part of a buffer
pub read_longer : (file old new : List ℕ) (at n : ℕ) → ReadSoFar file (take at old) → ReadsAt file at (drop at new) n → at ≤ length old → take at new ≡ take at old → at + n ≤ length new → ReadSoFar file (take (at + n) new)
read_longer file old new at n so_far reads within front fits =
    let count : length (take at old) ≡ at = omega (arith, length-take at old, within) in
    let longer = read_more file (take at old) (drop at new) n so_far (subst (λ (k : ℕ). ReadsAt file k (drop at new) n) (sym count) reads) (omega (arith, length-drop at new, fits)) in
    subst (ReadSoFar file) (ap (λ (l : List ℕ). l ++ take n (drop at new)) (sym front) ∙ sym (take-add at n new)) longer
