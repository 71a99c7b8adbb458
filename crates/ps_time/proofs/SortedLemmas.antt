-- What a binary search finds in an ascending list, and what an edit at that place does.
use Rattle.std.proofs.Common.{◌≡◌, ℕ, zero, suc, map, ◌+◌, ◌<◌, ◌≤◌, List, [], ◌∷◌, length, get_or, set, Some, None, Bool, cond, not, true, false, refl, ap, arith}
use Rattle.std.specs.List.{insert, remove, filter, AllByRecursion}
use Rattle.std.specs.List.Sorted.{IsPartitionPoint, IsNonDecreasingBy}
use Rattle.std.specs.declared.cmp.Ordering.{Ordering}
use Rattle.std.specs.declared.cmp.Ordering.TheVariants.{Less, Equal, Greater}
use Rattle.std.specs.Ordering.{ordering_index, match_ordering, is_eq}
use Rattle.std.specs.Cmp.{IsTotalOrder}
use Rattle.std.proofs.lemmas.List.Sorted.{searchable_from_sorted}
use Rattle.ps_time.specs.Sorted.{find_key, without_key, insert_key, replace_key, change_key, IsAscending}

module _ {K X : Type 0} {cmp : K → K → Ordering} (o : IsTotalOrder cmp) (key : X → K) where
  -- what holds of every item holds at each place
  all_at : (P : X → Type 0) (xs : List X) → AllByRecursion P xs → (i : ℕ) (d : X) → i < length xs → P (get_or xs i d)
  all_at P [] all i d lt = absurd (omega arith)
  all_at P (x ∷ xs) all zero d lt = all.0
  all_at P (x ∷ xs) all (suc i) d lt = all_at P xs all.1 i d (omega arith)

  -- a key is below the key at each later place
  pub ascending_at : (xs : List X) → IsAscending cmp key xs → (i j : ℕ) (d : X) → i < j → j < length xs → cmp (key (get_or xs i d)) (key (get_or xs j d)) ≡ Less
  ascending_at [] up i j d lt within = absurd (omega arith)
  ascending_at (x ∷ xs) up i zero d lt within = absurd (omega arith)
  ascending_at (x ∷ xs) up zero (suc j) d lt within = all_at (λ y. cmp (key x) (key y) ≡ Less) xs up.0 j d (omega arith)
  ascending_at (x ∷ xs) up (suc i) (suc j) d lt within = ascending_at xs up.1 i j d (omega arith) (omega arith)

  -- so the comparisons with a key rise, as a binary search asks
  pub searchable : (xs : List X) → IsAscending cmp key xs → (k : K) → IsNonDecreasingBy (λ y. ordering_index (cmp (key y) k)) xs
  searchable xs up k =
      searchable_from_sorted o key xs k (λ i d low within.
      let above = ascending_at xs up i (i + 1) d (omega arith) within in rw (o.antisymm _ _, above) refl)

  -- a key below one that equals k is below k
  below_same : (a b k : K) → cmp a b ≡ Less → cmp b k ≡ Equal → cmp a k ≡ Less
  below_same a b k below same = rw (o.antisymm a k, ← o.congr b k a same, o.antisymm b a, below) refl

  -- a key above one that equals k is above k
  above_same : (a b k : K) → cmp a b ≡ Less → cmp a k ≡ Equal → cmp b k ≡ Greater
  above_same a b k below same = rw (o.antisymm b k, ← o.congr a k b same, below) refl

  -- at a gap for the key no item has it
  pub find_in_gap : (xs : List X) (k : K) (i : ℕ) → IsPartitionPoint (λ y. cmp (key y) k ≡ Less) (λ y. cmp (key y) k ≡ Greater) xs i → find_key cmp key xs k ≡ None
  find_in_gap [] k i gap = refl
  find_in_gap (x ∷ xs) k zero gap =
      rw (gap.1 0 x (omega arith) (omega arith)) (find_in_gap xs k zero (λ j d low high. absurd (omega arith), λ j d low high. gap.1 (suc j) d (omega arith) (omega arith)))
  find_in_gap (x ∷ xs) k (suc i) gap =
      rw (gap.0 0 x (omega arith) (omega arith)) (find_in_gap xs k i (λ j d low high. gap.0 (suc j) d (omega arith) (omega arith), λ j d low high. gap.1 (suc j) d (omega arith) (omega arith)))

  -- a new item goes into the gap
  pub insert_in_gap : (xs : List X) (y : X) (i : ℕ) → i ≤ length xs → IsPartitionPoint (λ x. cmp (key x) (key y) ≡ Less) (λ x. cmp (key x) (key y) ≡ Greater) xs i → insert_key cmp key xs y ≡ insert xs i y
  insert_in_gap [] y zero le gap = refl
  insert_in_gap [] y (suc i) le gap = absurd (omega arith)
  insert_in_gap (x ∷ xs) y zero le gap = rw (gap.1 0 x (omega arith) (omega arith)) refl
  insert_in_gap (x ∷ xs) y (suc i) le gap =
      rw (gap.0 0 x (omega arith) (omega arith)) (ap (λ l. x ∷ l) (insert_in_gap xs y i (omega arith) (λ j d low high. gap.0 (suc j) d (omega arith) (omega arith), λ j d low high. gap.1 (suc j) d (omega arith) (omega arith))))

  -- an item that has the key is the one that is found
  pub find_at : (xs : List X) (k : K) (i : ℕ) (d : X) → IsAscending cmp key xs → i < length xs → cmp (key (get_or xs i d)) k ≡ Equal → find_key cmp key xs k ≡ Some (get_or xs i d)
  find_at [] k i d up lt same = absurd (omega arith)
  find_at (x ∷ xs) k zero d up lt same = rw same refl
  find_at (x ∷ xs) k (suc i) d up lt same =
      rw (below_same _ _ k (ascending_at (x ∷ xs) up 0 (suc i) d (omega arith) lt) same) (find_at xs k i d up.1 (omega arith) same)

  -- no item after one that has the key has it
  without_above : (xs : List X) (a k : K) → AllByRecursion (λ y. cmp a (key y) ≡ Less) xs → cmp a k ≡ Equal → without_key cmp key xs k ≡ xs
  without_above [] a k all same = refl
  without_above (x ∷ xs) a k all same = rw (above_same a (key x) k all.0 same) (ap (λ l. x ∷ l) (without_above xs a k all.1 same))

  -- and the one that is taken out
  pub without_at : (xs : List X) (k : K) (i : ℕ) (d : X) → IsAscending cmp key xs → i < length xs → cmp (key (get_or xs i d)) k ≡ Equal → without_key cmp key xs k ≡ remove xs i
  without_at [] k i d up lt same = absurd (omega arith)
  without_at (x ∷ xs) k zero d up lt same = rw same (without_above xs (key x) k up.0 same)
  without_at (x ∷ xs) k (suc i) d up lt same =
      rw (below_same _ _ k (ascending_at (x ∷ xs) up 0 (suc i) d (omega arith) lt) same) (ap (λ l. x ∷ l) (without_at xs k i d up.1 (omega arith) same))

  -- what holds of every item holds of those that stay
  all-filter : (P : X → Type 0) (p : X → Bool) (xs : List X) → AllByRecursion P xs → AllByRecursion P (filter p xs)
  all-filter P p [] all = tt
  all-filter P p (x ∷ xs) all =
      elim (p x) as (λ b. AllByRecursion P (cond b (x ∷ filter p xs) (filter p xs))) [
        | true ↦ (all.0, all-filter P p xs all.1)
        | false ↦ all-filter P p xs all.1
      ]

  -- the order stays where items go
  pub ascending-filter : (p : X → Bool) (xs : List X) → IsAscending cmp key xs → IsAscending cmp key (filter p xs)
  ascending-filter p [] up = tt
  ascending-filter p (x ∷ xs) up =
      let rest = filter p xs in
      elim (p x) as (λ b. IsAscending cmp key (cond b (x ∷ rest) rest)) [
        | true ↦ (all-filter _ p xs up.0, ascending-filter p xs up.1)
        | false ↦ ascending-filter p xs up.1
      ]

  pub ascending-without : (xs : List X) (k : K) → IsAscending cmp key xs → IsAscending cmp key (without_key cmp key xs k)
  ascending-without xs k up = ascending-filter (λ x. not (is_eq (cmp (key x) k))) xs up

  -- what holds of every item and of the new one holds after it has come
  all-insert : (P : X → Type 0) (xs : List X) (y : X) → AllByRecursion P xs → P y → AllByRecursion P (insert_key cmp key xs y)
  all-insert P [] y all here = (here, tt)
  all-insert P (x ∷ xs) y all here =
      let rest = insert_key cmp key xs y in
      elim (cmp (key x) (key y)) as (λ c. AllByRecursion P (match_ordering c (x ∷ rest) (x ∷ rest) (y ∷ x ∷ xs))) [
        | Less ↦ (all.0, all-insert P xs y all.1 here)
        | Equal ↦ (all.0, all-insert P xs y all.1 here)
        | Greater ↦ (here, all)
      ]

  -- a key below the first is below all
  pub below_all : (xs : List X) (a b : K) → cmp a b ≡ Less → AllByRecursion (λ y. cmp b (key y) ≡ Less) xs → AllByRecursion (λ y. cmp a (key y) ≡ Less) xs
  below_all [] a b below all = tt
  below_all (x ∷ xs) a b below all = (o.trans a b (key x) below all.0, below_all xs a b below all.1)

  -- and where a new one comes
  pub ascending-insert : (xs : List X) (y : X) → IsAscending cmp key xs → find_key cmp key xs (key y) ≡ None → IsAscending cmp key (insert_key cmp key xs y)
  ascending-insert [] y up new = (tt, tt)
  ascending-insert (x ∷ xs) y up new =
      let rest = insert_key cmp key xs y in
      let found = find_key cmp key xs (key y) in
      let cases = elim (cmp (key x) (key y)) as (λ c. cmp (key x) (key y) ≡ c → cond (is_eq c) (Some x) found ≡ None → IsAscending cmp key (match_ordering c (x ∷ rest) (x ∷ rest) (y ∷ x ∷ xs))) [
        | Less ↦ λ is absent. (all-insert _ xs y up.0 is, ascending-insert xs y up.1 absent)
        | Equal ↦ λ is absent. cc
        | Greater ↦ λ is absent. let below : cmp (key y) (key x) ≡ Less = rw (o.antisymm (key y) (key x), is) refl in ((below, below_all xs (key y) (key x) below up.0), up)
      ] in
      cases refl new

  -- at a gap for the key nothing is taken out
  pub without_in_gap : (xs : List X) (k : K) (i : ℕ) → IsPartitionPoint (λ y. cmp (key y) k ≡ Less) (λ y. cmp (key y) k ≡ Greater) xs i → without_key cmp key xs k ≡ xs
  without_in_gap [] k i gap = refl
  without_in_gap (x ∷ xs) k zero gap =
      rw (gap.1 0 x (omega arith) (omega arith)) (ap (λ l. x ∷ l) (without_in_gap xs k zero (λ j d low high. absurd (omega arith), λ j d low high. gap.1 (suc j) d (omega arith) (omega arith))))
  without_in_gap (x ∷ xs) k (suc i) gap =
      rw (gap.0 0 x (omega arith) (omega arith)) (ap (λ l. x ∷ l) (without_in_gap xs k i (λ j d low high. gap.0 (suc j) d (omega arith) (omega arith), λ j d low high. gap.1 (suc j) d (omega arith) (omega arith))))

  -- what holds of every item holds of what a function that keeps it makes of them
  all-map : (P : X → Type 0) (f : X → X) (keeps : (x : X) → P x → P (f x)) (xs : List X) → AllByRecursion P xs → AllByRecursion P (map f xs)
  all-map P f keeps [] all = tt
  all-map P f keeps (x ∷ xs) all = (keeps x all.0, all-map P f keeps xs all.1)

  -- the order stays where each item keeps its key
  pub ascending-map : (f : X → X) (same : (x : X) → key (f x) ≡ key x) (xs : List X) → IsAscending cmp key xs → IsAscending cmp key (map f xs)
  ascending-map f same [] up = tt
  ascending-map f same (x ∷ xs) up =
      let below : AllByRecursion (λ y. cmp (key (f x)) (key y) ≡ Less) xs = rw (same x) up.0 in
      (all-map (λ y. cmp (key (f x)) (key y) ≡ Less) f (λ y less. rw (same y) less) xs below, ascending-map f same xs up.1)

  -- an item whose key is below all others goes to the front
  pub insert_front : (xs : List X) (y : X) → AllByRecursion (λ z. cmp (key y) (key z) ≡ Less) xs → insert_key cmp key xs y ≡ y ∷ xs
  insert_front [] y all = refl
  insert_front (z ∷ zs) y all = rw (o.antisymm (key z) (key y), all.0) refl

  -- no item above one that has the key is put in its place
  replace_above : (xs : List X) (a k : K) (y : X) → AllByRecursion (λ z. cmp a (key z) ≡ Less) xs → cmp a k ≡ Equal → replace_key cmp key xs k y ≡ xs
  replace_above [] a k y all same = refl
  replace_above (x ∷ xs) a k y all same = rw (above_same a (key x) k all.0 same) (ap (λ l. x ∷ l) (replace_above xs a k y all.1 same))

  -- below the first item no key is found
  find_above : (xs : List X) (k : K) → AllByRecursion (λ z. cmp k (key z) ≡ Less) xs → find_key cmp key xs k ≡ None
  find_above [] k all = refl
  find_above (x ∷ xs) k all = rw (o.antisymm (key x) k, all.0) (find_above xs k all.1)

  -- two keys that equal k compare alike
  all-same : (xs : List X) (a b k : K) → cmp a k ≡ Equal → cmp b k ≡ Equal → AllByRecursion (λ z. cmp a (key z) ≡ Less) xs → AllByRecursion (λ z. cmp b (key z) ≡ Less) xs
  all-same [] a b k same_a same_b all = tt
  all-same (x ∷ xs) a b k same_a same_b all = (rw (o.congr b k (key x) same_b, ← o.congr a k (key x) same_a) all.0, all-same xs a b k same_a same_b all.1)

  -- an item that is taken out and put back changed is changed in its place
  pub insert-without : (xs : List X) (k : K) (x y : X) → IsAscending cmp key xs → find_key cmp key xs k ≡ Some x → cmp (key y) k ≡ Equal → insert_key cmp key (without_key cmp key xs k) y ≡ replace_key cmp key xs k y
  insert-without [] k x y up found same = cc
  insert-without (z ∷ zs) k x y up found same =
      let rest = without_key cmp key zs k in
      let more = replace_key cmp key zs k y in
      let cases = elim (cmp (key z) k) as (λ c. cmp (key z) k ≡ c → cond (is_eq c) (Some z) (find_key cmp key zs k) ≡ Some x → insert_key cmp key (cond (not (is_eq c)) (z ∷ rest) rest) y ≡ cond (is_eq c) y z ∷ more) [
        | Less ↦ λ is here. let below : cmp (key z) (key y) ≡ Less = rw (o.antisymm (key z) (key y), o.congr (key y) k (key z) same, ← o.antisymm (key z) k) is in
            rw below (ap (λ l. z ∷ l) (insert-without zs k x y up.1 here same))
        | Equal ↦ λ is here. rw (without_above zs (key z) k up.0 is, replace_above zs (key z) k y up.0 is) (insert_front zs y (all-same zs (key z) (key y) k is same up.0))
        | Greater ↦ λ is here. let below : cmp k (key z) ≡ Less = rw (o.antisymm k (key z), is) refl in
            let absent : find_key cmp key zs k ≡ None = find_above zs k (below_all zs k (key z) below up.0) in cc
      ] in
      cases refl found

  module _ (f : X → X) where
    -- no item above one that has the key is changed
    change_above : (xs : List X) (a k : K) → AllByRecursion (λ z. cmp a (key z) ≡ Less) xs → cmp a k ≡ Equal → change_key cmp key f xs k ≡ xs
    change_above [] a k all same = refl
    change_above (x ∷ xs) a k all same = rw (above_same a (key x) k all.0 same) (ap (λ l. x ∷ l) (change_above xs a k all.1 same))

    -- a write over the item that has the key changes that item alone
    pub set_changes : (xs : List X) (k : K) (i : ℕ) (d : X) → IsAscending cmp key xs → i < length xs → cmp (key (get_or xs i d)) k ≡ Equal → set xs i (f (get_or xs i d)) ≡ change_key cmp key f xs k
    set_changes [] k i d up lt same = absurd (omega arith)
    set_changes (x ∷ xs) k zero d up lt same = rw (same, change_above xs (key x) k up.0 same) refl
    set_changes (x ∷ xs) k (suc i) d up lt same =
        rw (below_same _ _ k (ascending_at (x ∷ xs) up 0 (suc i) d (omega arith) lt) same) (ap (λ l. x ∷ l) (set_changes xs k i d up.1 (omega arith) same))

    -- the order stays where a change keeps the key
    pub ascending-change : (same : (x : X) → key (f x) ≡ key x) (xs : List X) (k : K) → IsAscending cmp key xs → IsAscending cmp key (change_key cmp key f xs k)
    ascending-change same xs k up =
        ascending-map (λ x. cond (is_eq (cmp (key x) k)) (f x) x) (λ x. elim (is_eq (cmp (key x) k)) as (λ b. key (cond b (f x) x) ≡ key x) [ true ↦ same x | false ↦ refl ]) xs up

    -- at a gap for the key nothing is changed
    pub change_in_gap : (xs : List X) (k : K) (i : ℕ) → IsPartitionPoint (λ y. cmp (key y) k ≡ Less) (λ y. cmp (key y) k ≡ Greater) xs i → change_key cmp key f xs k ≡ xs
    change_in_gap [] k i gap = refl
    change_in_gap (x ∷ xs) k zero gap =
        rw (gap.1 0 x (omega arith) (omega arith)) (ap (λ l. x ∷ l) (change_in_gap xs k zero (λ j d low high. absurd (omega arith), λ j d low high. gap.1 (suc j) d (omega arith) (omega arith))))
    change_in_gap (x ∷ xs) k (suc i) gap =
        rw (gap.0 0 x (omega arith) (omega arith)) (ap (λ l. x ∷ l) (change_in_gap xs k i (λ j d low high. gap.0 (suc j) d (omega arith) (omega arith), λ j d low high. gap.1 (suc j) d (omega arith) (omega arith))))
