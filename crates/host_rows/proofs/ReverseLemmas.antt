-- A list that is kept in reverse: where its items stand, how it changes, and what a search finds in it.
use Rattle.std.proofs.Common.{◌≡◌, ◌+◌, ◌-◌, ◌<◌, ◌≤◌, ◌∙◌, ℕ, suc, Bool, true, false, not, List, [], ◌∷◌, ◌++◌, length, take, drop, cond, get_or, nat_le, reverse, add-one, refl, ap, ap₂, sym, subst, arith}
use Rattle.std.proofs.lemmas.Cmp.{tied_itself}
use Rattle.std.proofs.lemmas.List.{append_assoc, drop-drop, drop_at, drop_more, get_or_default, get_or-reverse, length-drop, length-reverse, reverse-append, take-append-drop, take_at}
use Rattle.std.specs.Cmp.{Equal-is}
use Rattle.std.specs.List.{insert, remove}
use Rattle.std.specs.List.Sorted.{IsPartitionedBy, IsPartitionPoint}
use Rattle.std.specs.Ordering.{is_eq}
use Rattle.std.specs.declared.cmp.Ordering.TheVariants.{Equal}
use Rattle.host_rows.specs.Deadlines.{deadline_cmp, due_keys, is_before, IsAscendingDeadlines, IsGapFor, IsPlaceOf}
use Rattle.host_rows.specs.declared.deadlines.Deadline.{Deadline}
use Rattle.host_rows.proofs.DeadlineLemmas.{before_parted, deadline_cmp_total, due_step, gap_found, parted_at, Parts}

module _ {X : Type 0} (xs : List X) where
  abbrev behind : ℕ → List X
  behind k = reverse (drop k xs)

  abbrev before : ℕ → List X
  before k = reverse (take k xs)

  reverse_cons : (x : X) (ys : List X) → reverse (x ∷ ys) ≡ reverse ys ++ x ∷ []
  reverse_cons x ys = reverse-append (x ∷ []) ys

  reverse_split : (k : ℕ) → reverse xs ≡ behind k ++ before k
  reverse_split k = ap reverse (sym (take-append-drop k xs)) ∙ reverse-append (take k xs) (drop k xs)

  length_behind : (k : ℕ) → length (behind k) ≡ length xs - k
  length_behind k = length-reverse (drop k xs) ∙ length-drop k xs

  -- an item comes
  reverse_insert : (i : ℕ) (x : X) → i ≤ length xs → reverse (insert xs (length xs - i) x) ≡ insert (reverse xs) i x
  reverse_insert i x within =
      let k : ℕ = length xs - i in
      let count : length (behind k) ≡ i = omega (arith, length_behind k, within) in
      let split = reverse_split k in
      let left : take i (reverse xs) ≡ behind k = ap (take i) split ∙ take_at (behind k) (before k) i count in
      let right : drop i (reverse xs) ≡ before k = ap (drop i) split ∙ drop_at (behind k) (before k) i count in
      reverse-append (take k xs) (x ∷ drop k xs)
      ∙ ap (λ l. l ++ before k) (reverse_cons x (drop k xs))
      ∙ append_assoc (behind k) (x ∷ []) (before k)
      ∙ sym (ap₂ (λ a b. a ++ x ∷ b) left right)

  pub inserted : (ys : List X) (i n : ℕ) (x : X) → i ≤ length xs → n ≡ length xs → ys ≡ insert xs (n - i) x → reverse ys ≡ insert (reverse xs) i x
  inserted ys i n x within count is = ap reverse is ∙ ap (λ m. reverse (insert xs (m - i) x)) count ∙ reverse_insert i x within

  -- an item goes
  reverse_remove : (i : ℕ) (d : X) → i < length xs → reverse (remove xs (length xs - 1 - i)) ≡ remove (reverse xs) i
  reverse_remove i d within =
      let k : ℕ = length xs - 1 - i in
      let x : X = get_or xs k d in
      let count : length (behind (suc k)) ≡ i = omega (arith, length_behind (suc k), within) in
      let split : reverse xs ≡ behind (suc k) ++ x ∷ before k =
      reverse_split k
      ∙ ap (λ l. l ++ before k) (ap reverse (drop_more xs k d (omega (arith, within)) ∙ ap (λ n. x ∷ drop n xs) (add-one k)) ∙ reverse_cons x (drop (suc k) xs))
      ∙ append_assoc (behind (suc k)) (x ∷ []) (before k) in
      let left : take i (reverse xs) ≡ behind (suc k) = ap (take i) split ∙ take_at (behind (suc k)) (x ∷ before k) i count in
      let right : drop i (reverse xs) ≡ x ∷ before k = ap (drop i) split ∙ drop_at (behind (suc k)) (x ∷ before k) i count in
      let rest : drop (suc i) (reverse xs) ≡ before k = ap (λ n. drop n (reverse xs)) (sym (add-one i)) ∙ sym (drop-drop 1 i (reverse xs)) ∙ ap (drop 1) right in
      reverse-append (take k xs) (drop (suc k) xs) ∙ sym (ap₂ (λ a b. a ++ b) left rest)

  pub removed : (ys : List X) (i n : ℕ) (d : X) → i < length xs → n ≡ length xs → ys ≡ remove xs (n - 1 - i) → reverse ys ≡ remove (reverse xs) i
  removed ys i n d within count is = ap reverse is ∙ ap (λ m. reverse (remove xs (m - 1 - i))) count ∙ reverse_remove i d within

  -- the item at a place from the other end
  pub at_reverse : (i : ℕ) (d : X) → i < length xs → get_or (reverse xs) (length xs - 1 - i) d ≡ get_or xs i d
  at_reverse i d within =
      let same : length xs - 1 - (length xs - 1 - i) ≡ i = omega (arith, within) in
      get_or-reverse xs (length xs - 1 - i) d (omega (arith, within)) ∙ ap (λ n. get_or xs n d) same

  -- what stands before others stands behind them
  pub reverse_parts : (P Q : X → Type 0) (n : ℕ) → n ≤ length xs → IsPartitionPoint Q P xs n → IsPartitionPoint P Q (reverse xs) (length xs - n)
  reverse_parts P Q n within parts = (
    λ k d low high. subst P (sym (get_or-reverse xs k d (omega (arith, high)))) (parts.1 (length xs - 1 - k) d (omega (arith, within, high)) (omega (arith, high))),
    λ k d low high.
        let inside : k < length xs = omega (arith, high, length-reverse xs) in
        subst Q (sym (get_or-reverse xs k d inside)) (parts.0 (length xs - 1 - k) d (omega arith) (omega (arith, within, low, inside))),
  )

-- in descending order those that don't stand before a deadline come first
pub from_parted : (ds : List Deadline) → IsAscendingDeadlines (reverse ds) → (d : Deadline) → IsPartitionedBy (λ e. not (is_before d e)) ds
from_parted ds up d i j e le within late = go (is_before d (get_or ds i e)) refl
  where
    n : ℕ
    n = length ds

    go : (b : Bool) → is_before d (get_or ds i e) ≡ b → not (is_before d (get_or ds i e)) ≡ true
    go false is = ap not is
    go true is =
        let first : is_before d (get_or (reverse ds) (n - 1 - i) e) ≡ true = ap (is_before d) (at_reverse ds i e (omega (arith, le, within))) ∙ is in
        let other : is_before d (get_or (reverse ds) (n - 1 - j) e) ≡ true = before_parted (reverse ds) up d (n - 1 - j) (n - 1 - i) e (omega (arith, le)) (omega (arith, le, within, length-reverse ds)) first in
        let early : is_before d (get_or ds j e) ≡ true = ap (is_before d) (sym (at_reverse ds j e within)) ∙ other in
        let wrong = sym late ∙ ap not early in cc

not_late : (b : Bool) → not b ≡ true → b ≡ false
not_late true e = cc
not_late false e = refl

not_early : (b : Bool) → not b ≡ false → b ≡ true
not_early true e = refl
not_early false e = cc

-- so, where so many come first, the others stand before it in ascending order
pub reverse_late : (ds : List Deadline) (d : Deadline) (n : ℕ) → n ≤ length ds → IsPartitionPoint (λ e. not (is_before d e) ≡ true) (λ e. not (is_before d e) ≡ false) ds n → Parts (reverse ds) d (length ds - n)
reverse_late ds d n within parts =
    let back = reverse_parts ds (λ e. not (is_before d e) ≡ false) (λ e. not (is_before d e) ≡ true) n within parts in
    (λ k e low high. not_early (is_before d (get_or (reverse ds) k e)) (back.0 k e low high), λ k e low high. not_late (is_before d (get_or (reverse ds) k e)) (back.1 k e low high))

-- a deadline that is among them is the last of those that don't stand before it
pub found_last : (ds : List Deadline) → IsAscendingDeadlines (reverse ds) → (d : Deadline) (n last : ℕ) → n ≤ length ds → Parts (reverse ds) d (length ds - n) → last < length ds → d ≡ get_or ds last d → last + 1 ≡ n
found_last ds up d n last all parts within is =
    let same : deadline_cmp (get_or (reverse ds) (length ds - 1 - last) d) d ≡ Equal = ap (λ e. deadline_cmp e d) (at_reverse ds last d within ∙ sym is) ∙ tied_itself deadline_cmp_total d in
    let found : length ds - n ≡ length ds - 1 - last = parted_at (reverse ds) up d (length ds - n) (length ds - 1 - last) d parts (omega (arith, within, length-reverse ds)) same in
    omega (arith, found, all, within)

-- ---- what a search finds, where so many don't stand before the deadline
module _ (ds : List Deadline) (up : IsAscendingDeadlines (reverse ds)) (d : Deadline) (n : ℕ) (all : n ≤ length ds) (parts : Parts (reverse ds) d (length ds - n)) where
  last_at : (e : Deadline) → 0 < n → get_or (reverse ds) (length ds - n) e ≡ get_or ds (n - 1) e
  last_at e some =
      let place : length ds - n ≡ length ds - 1 - (n - 1) = omega (arith, some, all) in
      ap (λ i. get_or (reverse ds) i e) place ∙ at_reverse ds (n - 1) e (omega (arith, some, all))

  -- all stand before it
  pub gap_behind : n ≡ 0 → IsGapFor (reverse ds) d (length ds - n)
  gap_behind none = gap_found (reverse ds) up d (length ds - n) (omega (arith, length-reverse ds)) parts (λ less e. absurd (omega (arith, none, less, length-reverse ds)))

  module _ (x : Deadline) (some : 0 < n) (is : x ≡ get_or ds (n - 1) x) where
    here : (e : Deadline) → get_or (reverse ds) (length ds - n) e ≡ x
    here e = last_at e some ∙ get_or_default ds (n - 1) e x (omega (arith, some, all)) ∙ sym is

    -- the last of them is another
    pub gap_beside : is_eq (deadline_cmp x d) ≡ false → IsGapFor (reverse ds) d (length ds - n)
    gap_beside other = gap_found (reverse ds) up d (length ds - n) (omega (arith, length-reverse ds)) parts (λ less e. ap (λ y. is_eq (deadline_cmp y d)) (here e) ∙ other)

    -- the last of them is the deadline
    pub place_there : is_eq (deadline_cmp x d) ≡ true → IsPlaceOf (reverse ds) d (length ds - n)
    place_there same = record {
      within = omega (arith, some, all, length-reverse ds);
      same = λ e. ap (λ y. deadline_cmp y d) (here e) ∙ (Equal-is (deadline_cmp x d)).0 same;
    }

-- the keys of those that have come, from a place on
pub due_kept : (m : ℕ) (ds : List Deadline) (i : ℕ) (x : Deadline) → i < length ds → x ≡ get_or ds (length ds - 1 - i) x → due_keys m (drop i (reverse ds)) ≡ cond (nat_le x.moment m) (x.key ∷ due_keys m (drop (i + 1) (reverse ds))) []
due_kept m ds i x within is = due_step m (reverse ds) i x (omega (arith, within, length-reverse ds)) (is ∙ sym (get_or-reverse ds i x within))
