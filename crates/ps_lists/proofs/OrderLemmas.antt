-- How often a number stands in the order of a list's cells.
use Rattle.std.proofs.Common.{◌≡◌, ◌≢◌, ◌∙◌, ◌⊎◌, inl, inr, ◌<◌, ◌≤◌, ◌+◌, ◌-◌, ◌^◌, ◌==◌, ℕ, zero, suc, Bool, true, false, cond, not, All, List, [], ◌∷◌, ◌++◌, length, get_or, set, take, drop, map, refl, sym, ap, ap₂, subst, arith, length-set}
use Rattle.std.proofs.lemmas.Bool.{cases_eq, cases_lt, eq-eqb, eqb-true}
use Rattle.std.proofs.lemmas.Bool.Decides.{nat_tests}
use Rattle.std.specs.List.{AllByRecursion, insert, position_or_len, range_with_len, remove}
use Rattle.std.proofs.lemmas.List.{drop-map, get_or-set_other, get_or-set_same, map-append, take-map}
use Rattle.std.proofs.lemmas.List.Edits.{length-insert, length-remove}
use Rattle.std.proofs.lemmas.List.FromFn.{length-range_with_len}
use Rattle.std.proofs.lemmas.List.Sums.{get_or-le-sum_by, passes_at_first, sum_by-cons, sum_by-insert, sum_by-remove, sum_by-set}
use Rattle.ps_lists.specs.Order.{IsOrderOf, last_place, times}

abbrev pub counts : ℕ → ℕ → ℕ
counts number n = cond (n == number) 1 0

pub counts_same : (k n : ℕ) → n ≡ k → counts k n ≡ 1
counts_same k n same = ap (λ b. cond b 1 0) (eq-eqb n k same)

pub counts_other : (k n : ℕ) → n ≢ k → counts k n ≡ 0
counts_other k n other = grind (arith, nat_tests)

pub times_member : (order : List ℕ) (i d : ℕ) → i < length order → 0 < times (get_or order i d) order
times_member order i d lt =
    let k = get_or order i d in
    omega (arith, get_or-le-sum_by (counts k) order i d lt, counts_same k k refl)

-- where one more stands in front
pub times_more : (k n : ℕ) (ns : List ℕ) → times k (n ∷ ns) ≡ counts k n + times k ns
times_more k n ns = sum_by-cons (counts k) n ns

-- a number that stands in the list has a first place
first_place : (k : ℕ) (order : List ℕ) → 0 < times k order → position_or_len (λ n. n == k) order < length order
first_place k [] some = absurd (omega (arith, some))
first_place k (n ∷ ns) some = go (n == k) refl (first_place k ns)
  where
    go : (b : Bool) → (n == k) ≡ b → (0 < times k ns → position_or_len (λ m. m == k) ns < length ns) → cond (not b) (1 + position_or_len (λ m. m == k) ns) 0 < suc (length ns)
    go true is later = omega arith
    go false is later =
        let none : counts k n ≡ 0 = ap (λ b. cond b 1 0) is in
        let deep = later (omega (arith, some, none, times_more k n ns)) in
        omega (arith, deep)

-- what doesn't stand there is none of them
pub apart : (k : ℕ) (order : List ℕ) → times k order ≡ 0 → AllByRecursion (λ n. n ≢ k) order
apart k [] none = tt
apart k (n ∷ ns) none =
    (λ same. absurd (omega (arith, none, times_more k n ns, counts_same k n same)), apart k ns (omega (arith, none, times_more k n ns)))

-- ---- one number in the place of another
abbrev pub redirect : ℕ → ℕ → ℕ → ℕ
redirect k c n = cond (n == k) c n

same_redirect : (k c : ℕ) (order : List ℕ) → AllByRecursion (λ n. n ≢ k) order → order ≡ map (redirect k c) order
same_redirect k c [] none = refl
same_redirect k c (n ∷ ns) none = ap₂ (λ m ms. m ∷ ms) (grind (arith, nat_tests, none.0)) (same_redirect k c ns none.1)

pub set_redirect : (k c : ℕ) (order : List ℕ) (i d : ℕ) → i < length order → get_or order i d ≡ k → times k order ≡ 1 → set order i c ≡ map (redirect k c) order
set_redirect k c [] i d lt at once = absurd (omega (arith, lt))
set_redirect k c (n ∷ ns) zero d lt at once =
    ap₂ (λ m ms. m ∷ ms) (sym (ap (λ b. cond b c n) (eq-eqb n k at))) (same_redirect k c ns (apart k ns (omega (arith, once, times_more k n ns, counts_same k n at))))
set_redirect k c (n ∷ ns) (suc i) d lt at once =
    let deep : 0 < times k ns = subst (λ m. 0 < times m ns) at (times_member ns i d (omega (arith, lt))) in
    let other : n ≢ k = λ same. absurd (omega (arith, once, deep, times_more k n ns, counts_same k n same)) in
    ap₂ (λ m ms. m ∷ ms) (here other) (set_redirect k c ns i d (omega (arith, lt)) at (omega (arith, once, times_more k n ns, counts_other k n other)))
  where
    here : n ≢ k → n ≡ redirect k c n
    here other = grind (arith, nat_tests)

pub remove_map : (r : ℕ → ℕ) (order : List ℕ) (at : ℕ) → remove (map r order) at ≡ map r (remove order at)
remove_map r order at = ap₂ (λ a b. a ++ b) (take-map r at order) (drop-map r (suc at) order) ∙ sym (map-append r (take at order) (drop (suc at) order))

-- ---- an order
module _ (count : ℕ) (order : List ℕ) (is : IsOrderOf count order) where
  pub inside : All (λ n. n < count) order
  inside i d lt = go (cases_lt (get_or order i d) count)
    where
      go : (get_or order i d < count) ⊎ (count ≤ get_or order i d) → get_or order i d < count
      go (inl low) = low
      go (inr high) = absurd (omega (arith, is.outside (get_or order i d) high, times_member order i d lt))

  -- the last cell's number stands at its place
  pub last_within : 0 < count → last_place order < length order
  last_within some = first_place (length order - 1) order (omega (arith, is.once (length order - 1) (omega (arith, some, is.all))))

  pub last_number : (d : ℕ) → 0 < count → get_or order (last_place order) d ≡ count - 1
  last_number d some =
      eqb-true (get_or order (last_place order) d) (length order - 1) (passes_at_first (λ n. n == length order - 1) order d (last_within some)) ∙ ap (λ n. n - 1) is.all

  -- one more cell
  pub one_more : (at : ℕ) → at ≤ length order → count < 2 ^ 32 → IsOrderOf (count + 1) (insert order at count)
  one_more at within few = record {
    all = length-insert order at count within ∙ ap (λ n. n + 1) is.all;
    few = omega (arith, few);
    once = λ k lt. go k lt (cases_eq count k);
    outside = λ k le. omega (arith, more k, counts_other k count (λ e. absurd (omega (arith, le, e))), is.outside k (omega (arith, le)));
  }
    where
      more : (k : ℕ) → times k (insert order at count) ≡ times k order + counts k count
      more k = sum_by-insert (counts k) order at count

      go : (k : ℕ) → k < count + 1 → (count ≡ k) ⊎ (count ≢ k) → times k (insert order at count) ≡ 1
      go k lt (inl same) = omega (arith, more k, is.outside k (omega (arith, same)), counts_same k count same)
      go k lt (inr other) = omega (arith, more k, is.once k (omega (arith, lt, other)), counts_other k count other)

  -- the number c of the cell that is filled again stands where that of the last one stood, and not where it did
  module _ (at last d c : ℕ) (within : at < length order) (low : last < length order) (here : get_or order at d ≡ c) (there : get_or order last d ≡ count - 1) where
    twice : get_or (set order last c) at d ≡ c
    twice = go (cases_eq at last)
      where
        go : (at ≡ last) ⊎ (at ≢ last) → get_or (set order last c) at d ≡ c
        go (inl same) = ap (λ i. get_or (set order last c) i d) same ∙ get_or-set_same order last c d low
        go (inr other) = get_or-set_other order last at c d other ∙ here

    fewer : (k : ℕ) → times k (remove (set order last c) at) + counts k (count - 1) ≡ times k order
    fewer k =
        let gone = sum_by-remove (counts k) (set order last c) at d (omega (arith, within, length-set order last c)) in
        let moved = sum_by-set (counts k) order last c d low in
        let one : counts k (get_or (set order last c) at d) ≡ counts k c = ap (counts k) twice in
        let other : counts k (get_or order last d) ≡ counts k (count - 1) = ap (counts k) there in
        omega (arith, gone, moved, one, other)

    pub one_less : IsOrderOf (count - 1) (remove (set order last c) at)
    one_less = record {
      all = omega (arith, within, length-remove (set order last c) at (omega (arith, within, length-set order last c)), length-set order last c, is.all);
      few = omega (arith, is.few);
      once = λ k lt. omega (arith, fewer k, is.once k (omega (arith, lt)), counts_other k (count - 1) (λ e. absurd (omega (arith, lt, e))));
      outside = λ k le. go k le (cases_eq (count - 1) k);
    }
      where
        some : 0 < count
        some = omega (arith, within, is.all)

        go : (k : ℕ) → count - 1 ≤ k → (count - 1 ≡ k) ⊎ (count - 1 ≢ k) → times k (remove (set order last c) at) ≡ 0
        go k le (inl same) = omega (arith, fewer k, is.once k (omega (arith, same, some)), counts_same k (count - 1) same)
        go k le (inr other) = omega (arith, fewer k, is.outside k (omega (arith, le, other, some)))

    -- those that are left are other numbers
    module _ (m : ℕ) (member : 0 < times m (remove order at)) where
      gone : (k : ℕ) → times k (remove order at) + counts k c ≡ times k order
      gone k = ap (λ n. times k (remove order at) + counts k n) (sym here) ∙ sum_by-remove (counts k) order at d within

      not_gone : m ≢ c
      not_gone same =
          let inside_c : c < count = subst (λ n. n < count) here (inside at d within) in
          let two : 0 < times c (remove order at) = subst (λ n. 0 < times n (remove order at)) same member in
          absurd (omega (arith, two, gone c, counts_same c c refl, is.once c inside_c))

      not_outside : (m < count) ⊎ (count ≤ m) → m < count
      not_outside (inl low) = low
      not_outside (inr high) = absurd (omega (arith, member, gone m, is.outside m high))

    pub left_inside : (i e : ℕ) → i < length (remove order at) → (get_or (remove order at) i e ≢ c) × (get_or (remove order at) i e < count)
    left_inside i e lt =
        let m = get_or (remove order at) i e in
        let member = times_member (remove order at) i e lt in
        (not_gone m member, not_outside m member (cases_lt m count))

-- ---- numbers one after another
module _ (k : ℕ) where
  times_below : (a n : ℕ) → k < a → times k (range_with_len a n) ≡ 0
  times_below a zero low = refl
  times_below a (suc n) low = omega (arith, times_more k a (range_with_len (a + 1) n), counts_other k a (λ e. absurd (omega (arith, low, e))), times_below (a + 1) n (omega (arith, low)))

  times_above : (a n : ℕ) → a + n ≤ k → times k (range_with_len a n) ≡ 0
  times_above a zero high = refl
  times_above a (suc n) high = omega (arith, times_more k a (range_with_len (a + 1) n), counts_other k a (λ e. absurd (omega (arith, high, e))), times_above (a + 1) n (omega (arith, high)))

  times_among : (a n : ℕ) → a ≤ k → k < a + n → times k (range_with_len a n) ≡ 1
  times_among a zero low high = absurd (omega (arith, low, high))
  times_among a (suc n) low high = go (cases_eq a k) (times_among (a + 1) n)
    where
      go : (a ≡ k) ⊎ (a ≢ k) → (a + 1 ≤ k → k < a + 1 + n → times k (range_with_len (a + 1) n) ≡ 1) → times k (range_with_len a (suc n)) ≡ 1
      go (inl same) later = omega (arith, times_more k a (range_with_len (a + 1) n), counts_same k a same, times_below (a + 1) n (omega (arith, same)))
      go (inr other) later = omega (arith, times_more k a (range_with_len (a + 1) n), counts_other k a other, later (omega (arith, low, other)) (omega (arith, high)))

pub in_turn : (count : ℕ) → count ≤ 2 ^ 32 → IsOrderOf count (range_with_len 0 count)
in_turn count few = record {
  all = length-range_with_len 0 count;
  few = few;
  once = λ k lt. times_among k 0 count (omega arith) (omega (arith, lt));
  outside = λ k le. times_above k 0 count (omega (arith, le));
}
