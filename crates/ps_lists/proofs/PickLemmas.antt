-- What is picked from cells by their numbers.
use Rattle.std.proofs.Common.{◌≡◌, ◌≢◌, ◌∙◌, ◌⊎◌, inl, inr, ◌<◌, ◌≤◌, ◌-◌, ℕ, zero, suc, Bool, cond, false, true, ◌==◌, All, List, [], ◌∷◌, ◌++◌, Option, Some, length, get_or, set, take, drop, map, refl, sym, ap, ap₂, subst, arith, length-append, length-set}
use Rattle.std.specs.List.{AllByRecursion, cons_option, filter_map, insert, range_with_len, remove, slice_get, swap_remove}
use Rattle.std.specs.List.Sorted.{IsPartitionPoint, IsPartitionedBy}
use Rattle.std.proofs.lemmas.Bool.{cases_eq, eq-eqb}
use Rattle.std.proofs.lemmas.Bool.Decides.{nat_tests}
use Rattle.std.proofs.lemmas.List.{append_assoc, get_or_at, get_or_append_left, get_or-set_other, get_or-set_same, get_or-take, length-take, length_push}
use Rattle.std.proofs.lemmas.List.Elements.{All-drop, All-take, All-weaker, filter_map-append, recursion_from_All}
use Rattle.std.proofs.lemmas.Option.{slice_get-get_or}
use Rattle.ps_lists.specs.Order.{IsOrderOf, last_place, passes_in, passes_some, picked, times}
use Rattle.ps_lists.proofs.OrderLemmas.{apart, counts_other, counts_same, inside, last_number, last_within, left_inside, redirect, remove_map, set_redirect, times_member, times_more}

-- a number that is inside gives the item of its cell
at_cell : {X : Type 0} (xs : List X) (n : ℕ) → n < length xs → (x : X) × (slice_get xs n ≡ Some x)
at_cell [] n lt = absurd (omega arith)
at_cell (x ∷ xs) zero lt = (x, refl)
at_cell (x ∷ xs) (suc n) lt = at_cell xs n (omega arith)

-- ---- where each number gives an item
module _ {X : Type 0} (h : ℕ → Option X) where
  abbrev Gives : ℕ → Type 0
  Gives n = (x : X) × (h n ≡ Some x)

  length_given : (ns : List ℕ) → AllByRecursion Gives ns → length (filter_map h ns) ≡ length ns
  length_given [] all = refl
  length_given (n ∷ ns) all = ap (λ o. length (cons_option o (filter_map h ns))) all.0.1 ∙ ap suc (length_given ns all.1)

  take_given : (i : ℕ) (ns : List ℕ) → AllByRecursion Gives ns → take i (filter_map h ns) ≡ filter_map h (take i ns)
  take_given zero ns all = refl
  take_given (suc i) [] all = refl
  take_given (suc i) (n ∷ ns) all =
      ap (λ o. take (suc i) (cons_option o (filter_map h ns))) all.0.1 ∙ ap (λ l. all.0.0 ∷ l) (take_given i ns all.1) ∙ sym (ap (λ o. cons_option o (filter_map h (take i ns))) all.0.1)

  drop_given : (i : ℕ) (ns : List ℕ) → AllByRecursion Gives ns → drop i (filter_map h ns) ≡ filter_map h (drop i ns)
  drop_given zero ns all = refl
  drop_given (suc i) [] all = refl
  drop_given (suc i) (n ∷ ns) all = ap (λ o. drop (suc i) (cons_option o (filter_map h ns))) all.0.1 ∙ drop_given i ns all.1

  get_given : (ns : List ℕ) (i d : ℕ) → AllByRecursion Gives ns → i < length ns → slice_get (filter_map h ns) i ≡ h (get_or ns i d)
  get_given [] i d all lt = absurd (omega arith)
  get_given (n ∷ ns) zero d all lt = ap (λ o. slice_get (cons_option o (filter_map h ns)) 0) all.0.1 ∙ sym all.0.1
  get_given (n ∷ ns) (suc i) d all lt = ap (λ o. slice_get (cons_option o (filter_map h ns)) (suc i)) all.0.1 ∙ get_given ns i d all.1 (omega arith)

weaker_recursion : {Y : Type 0} (P Q : Y → Type 0) → ((y : Y) → P y → Q y) → (ys : List Y) → AllByRecursion P ys → AllByRecursion Q ys
weaker_recursion P Q weak [] all = tt
weaker_recursion P Q weak (y ∷ ys) all = (weak y all.0, weaker_recursion P Q weak ys all.1)

slice_get_set_other : {Y : Type 0} (ys : List Y) (i j : ℕ) (y : Y) → j ≢ i → slice_get (set ys i y) j ≡ slice_get ys j
slice_get_set_other [] i j y other = refl
slice_get_set_other (z ∷ zs) zero zero y other = absurd (other refl)
slice_get_set_other (z ∷ zs) zero (suc j) y other = refl
slice_get_set_other (z ∷ zs) (suc i) zero y other = refl
slice_get_set_other (z ∷ zs) (suc i) (suc j) y other = slice_get_set_other zs i j y (λ e. other (ap suc e))

eqb_other : (n k : ℕ) → n ≢ k → (n == k) ≡ false
eqb_other n k other = grind (arith, nat_tests)

-- tests that agree at each number
same_given : {X : Type 0} (h k : ℕ → Option X) (ns : List ℕ) → AllByRecursion (λ n. h n ≡ k n) ns → filter_map h ns ≡ filter_map k ns
same_given h k [] all = refl
same_given h k (n ∷ ns) all = ap₂ cons_option all.0 (same_given h k ns all.1)

-- an item in the place of another, which one number gives
set_given : {X : Type 0} (h k : ℕ → Option X) (c : ℕ) (x : X) → k c ≡ Some x → ((n : ℕ) → n ≢ c → k n ≡ h n) → (ns : List ℕ) (i d : ℕ) → AllByRecursion (Gives h) ns → i < length ns → get_or ns i d ≡ c → times c ns ≡ 1 → filter_map k ns ≡ set (filter_map h ns) i x
set_given h k c x new old [] i d all lt here once = absurd (omega (arith, lt))
set_given h k c x new old (n ∷ ns) zero d all lt here once =
    let none : times c ns ≡ 0 = omega (arith, once, times_more c n ns, counts_same c n here) in
    let others : AllByRecursion (λ m. k m ≡ h m) ns = weaker_recursion (λ m. m ≢ c) (λ m. k m ≡ h m) old ns (apart c ns none) in
    ap₂ cons_option (ap k here ∙ new) (same_given k h ns others) ∙ sym (ap (λ o. set (cons_option o (filter_map h ns)) 0 x) all.0.1)
set_given h k c x new old (n ∷ ns) (suc i) d all lt here once =
    let deep : 0 < times c ns = subst (λ m. 0 < times m ns) here (times_member ns i d (omega (arith, lt))) in
    let other : n ≢ c = λ same. absurd (omega (arith, once, deep, times_more c n ns, counts_same c n same)) in
    let later = set_given h k c x new old ns i d all.1 (omega (arith, lt)) here (omega (arith, once, times_more c n ns, counts_other c n other)) in
    ap₂ cons_option (old n other ∙ all.0.1) later ∙ sym (ap (λ o. set (cons_option o (filter_map h ns)) (suc i) x) all.0.1)

map_given : {X : Type 0} (h : ℕ → Option X) (r : ℕ → ℕ) (ns : List ℕ) → filter_map h (map r ns) ≡ filter_map (λ n. h (r n)) ns
map_given h r [] = refl
map_given h r (n ∷ ns) = ap (cons_option (h (r n))) (map_given h r ns)

-- ---- items in cells
module _ {X : Type 0} (cells : List X) (order : List ℕ) (inside : All (λ n. n < length cells) order) where
  given : AllByRecursion (Gives (slice_get cells)) order
  given = recursion_from_All (Gives (slice_get cells)) order (All-weaker (λ n. n < length cells) (Gives (slice_get cells)) (λ n lt. at_cell cells n lt) order inside)

  pub length_picked : length (picked cells order) ≡ length order
  length_picked = length_given (slice_get cells) order given

  pub take_picked : (i : ℕ) → take i (picked cells order) ≡ picked cells (take i order)
  take_picked i = take_given (slice_get cells) i order given

  pub drop_picked : (i : ℕ) → drop i (picked cells order) ≡ picked cells (drop i order)
  drop_picked i = drop_given (slice_get cells) i order given

  pub get_picked : (i d : ℕ) → i < length order → slice_get (picked cells order) i ≡ slice_get cells (get_or order i d)
  get_picked i d lt = get_given (slice_get cells) order i d given lt

  -- the item of the number that was read at a place is that at the place
  pub item_picked : (i n : ℕ) (x : X) → i < length order → n ≡ get_or order i n → x ≡ get_or cells n x → x ≡ get_or (picked cells order) i x
  item_picked i n x lt read is =
      let there : slice_get (picked cells order) i ≡ Some (get_or (picked cells order) i x) = slice_get-get_or (picked cells order) i x (omega (arith, length_picked)) in
      let cell : slice_get cells n ≡ Some (get_or cells n x) = slice_get-get_or cells n x (subst (λ m. m < length cells) (sym read) (inside i n lt)) in
      let same = get_picked i n lt in
      cc

  -- a test of the items is one of the numbers
  module _ (p : X → Bool) where
    at_number : (i m : ℕ) (x : X) → i < length order → passes_in p cells (get_or order i m) ≡ p (get_or (picked cells order) i x)
    at_number i m x lt = ap (passes_some p) (sym (get_picked i m lt) ∙ slice_get-get_or (picked cells order) i x (omega (arith, lt, length_picked)))

    pub parted_numbers : IsPartitionedBy p (picked cells order) → IsPartitionedBy (passes_in p cells) order
    parted_numbers parted i j m le lt passing =
        let x : X = (at_cell cells (get_or order j m) (inside j m lt)).0 in
        at_number i m x (omega (arith, le, lt)) ∙ parted i j x le (omega (arith, lt, length_picked)) (sym (at_number j m x lt) ∙ passing)

    pub parted_items : (at : ℕ) → at ≤ length order → IsPartitionPoint (λ n. passes_in p cells n ≡ true) (λ n. passes_in p cells n ≡ false) order at → IsPartitionPoint (λ y. p y ≡ true) (λ y. p y ≡ false) (picked cells order) at
    parted_items at within point =
        (λ k x a b. sym (at_number k 0 x (omega (arith, b, within))) ∙ point.0 k 0 a b, λ k x a b. let low : k < length order = omega (arith, b, length_picked) in sym (at_number k 0 x low) ∙ point.1 k 0 a low)

  -- one more cell, whose number goes in
  pub insert_picked : (at : ℕ) (x : X) → picked (cells ++ x ∷ []) (insert order at (length cells)) ≡ insert (picked cells order) at x
  insert_picked at x =
      let more = cells ++ x ∷ [] in
      let same : (ns : List ℕ) → All (λ n. n < length cells) ns → picked more ns ≡ picked cells ns =
      λ ns all. same_given (slice_get more) (slice_get cells) ns (recursion_from_All (λ n. slice_get more n ≡ slice_get cells n) ns (All-weaker (λ n. n < length cells) (λ n. slice_get more n ≡ slice_get cells n) (λ n lt. kept n lt) ns all)) in
      filter_map-append (slice_get more) (take at order) (length cells ∷ drop at order)
      ∙ ap₂ (λ a o. a ++ cons_option o (picked more (drop at order))) (same (take at order) (All-take (λ n. n < length cells) at order inside) ∙ sym (take_picked at)) here
      ∙ ap (λ l. take at (picked cells order) ++ x ∷ l) (same (drop at order) (All-drop (λ n. n < length cells) at order inside) ∙ sym (drop_picked at))
    where
      kept : (n : ℕ) → n < length cells → slice_get (cells ++ x ∷ []) n ≡ slice_get cells n
      kept n lt =
          slice_get-get_or (cells ++ x ∷ []) n x (omega (arith, lt, length-append cells (x ∷ [])))
          ∙ ap Some (get_or_append_left cells (x ∷ []) x n lt)
          ∙ sym (slice_get-get_or cells n x lt)

      here : slice_get (cells ++ x ∷ []) (length cells) ≡ Some x
      here = slice_get-get_or (cells ++ x ∷ []) (length cells) x (omega (arith, length-append cells (x ∷ []))) ∙ ap Some (get_or_at cells x [] x (length cells) refl)

  -- an item in the place of another, whose cell has one number
  pub set_picked : (at d c : ℕ) (x : X) → at < length order → get_or order at d ≡ c → times c order ≡ 1 → picked (set cells c x) order ≡ set (picked cells order) at x
  set_picked at d c x lt here once =
      let low : c < length cells = subst (λ n. n < length cells) here (inside at d lt) in
      set_given (slice_get cells) (slice_get (set cells c x)) c x (written low) (λ n other. kept n other) order at d given lt here once
    where
      written : c < length cells → slice_get (set cells c x) c ≡ Some x
      written low = slice_get-get_or (set cells c x) c x (omega (arith, low, length-set cells c x)) ∙ ap Some (get_or-set_same cells c x x low)

      kept : (n : ℕ) → n ≢ c → slice_get (set cells c x) n ≡ slice_get cells n
      kept n other = slice_get_set_other cells c n x other

  -- without an item, into whose cell the last one goes
  pub remove_picked : IsOrderOf (length cells) order → (at last d c : ℕ) (x : X) → at < length order → last < length order → get_or order at d ≡ c → get_or order last d ≡ length cells - 1
      → picked (swap_remove cells c x) (remove (set order last c) at) ≡ remove (picked cells order) at
  remove_picked is at last d c x within low here there =
      ap (λ l. picked (swap_remove cells c x) (remove l at)) (set_redirect (length cells - 1) c order last d low there (is.once (length cells - 1) (omega (arith, within, is.all))))
      ∙ ap (picked (swap_remove cells c x)) (remove_map (redirect (length cells - 1) c) order at)
      ∙ map_given (slice_get (swap_remove cells c x)) (redirect (length cells - 1) c) (remove order at)
      ∙ same_given (λ n. slice_get (swap_remove cells c x) (redirect (length cells - 1) c n)) (slice_get cells) (remove order at) (recursion_from_All (λ n. slice_get (swap_remove cells c x) (redirect (length cells - 1) c n) ≡ slice_get cells n) (remove order at) all)
      ∙ filter_map-append (slice_get cells) (take at order) (drop (suc at) order)
      ∙ ap₂ (λ a b. a ++ b) (sym (take_picked at)) (sym (drop_picked (suc at)))
    where
      filled : c < length cells
      filled = subst (λ n. n < length cells) here (inside at d within)

      moved : (n : ℕ) → n ≢ c → n < length cells → (n ≡ (length cells - 1)) ⊎ (n ≢ (length cells - 1)) → slice_get (swap_remove cells c x) (redirect (length cells - 1) c n) ≡ slice_get cells n
      moved n other lt (inl same) =
          let less : c < (length cells - 1) = omega (arith, filled, other, same) in
          ap (λ b. slice_get (swap_remove cells c x) (cond b c n)) (eq-eqb n (length cells - 1) same)
          ∙ slice_get-get_or (swap_remove cells c x) c x (omega (arith, less, length-take (length cells - 1) (set cells c (get_or cells (length cells - 1) x)), length-set cells c (get_or cells (length cells - 1) x)))
          ∙ ap Some (get_or-take (length cells - 1) (set cells c (get_or cells (length cells - 1) x)) c x less ∙ get_or-set_same cells c (get_or cells (length cells - 1) x) x filled)
          ∙ sym (slice_get-get_or cells (length cells - 1) x (omega (arith, less)))
          ∙ ap (slice_get cells) (sym same)
      moved n other lt (inr below) =
          let less : n < (length cells - 1) = omega (arith, lt, below) in
          ap (λ b. slice_get (swap_remove cells c x) (cond b c n)) (eqb_other n (length cells - 1) below)
          ∙ slice_get-get_or (swap_remove cells c x) n x (omega (arith, less, length-take (length cells - 1) (set cells c (get_or cells (length cells - 1) x)), length-set cells c (get_or cells (length cells - 1) x)))
          ∙ ap Some (get_or-take (length cells - 1) (set cells c (get_or cells (length cells - 1) x)) n x less ∙ get_or-set_other cells c n (get_or cells (length cells - 1) x) x other)
          ∙ sym (slice_get-get_or cells n x lt)

      all : All (λ n. slice_get (swap_remove cells c x) (redirect (length cells - 1) c n) ≡ slice_get cells n) (remove order at)
      all i e lt =
          let left = left_inside (length cells) order is at last d c within low here there i e lt in
          moved (get_or (remove order at) i e) left.0 left.1 (cases_eq (get_or (remove order at) i e) (length cells - 1))

-- cells in turn
pub in_turn_picked : {X : Type 0} (front back : List X) → picked (front ++ back) (range_with_len (length front) (length back)) ≡ back
in_turn_picked front [] = refl
in_turn_picked front (x ∷ xs) =
    ap₂ cons_option here (ap₂ (λ l n. picked l (range_with_len n (length xs))) (sym (append_assoc front (x ∷ []) xs)) (sym (length_push front x)) ∙ in_turn_picked (front ++ x ∷ []) xs)
  where
    here : slice_get (front ++ x ∷ xs) (length front) ≡ Some x
    here = slice_get-get_or (front ++ x ∷ xs) (length front) x (omega (arith, length-append front (x ∷ xs))) ∙ ap Some (get_or_at front x xs x (length front) refl)

-- ---- the list whose order this is
module _ {X : Type 0} (cells : List X) (order : List ℕ) (is : IsOrderOf (length cells) order) where
  pub length_seen : length (picked cells order) ≡ length order
  length_seen = length_picked cells order (inside (length cells) order is)

  -- a number that was read at a place
  pub read_inside : (at n : ℕ) → at < length order → n ≡ get_or order at n → n < length cells
  read_inside at n lt read = subst (λ m. m < length cells) (sym read) (inside (length cells) order is at n lt)

  pub read_item : (at n : ℕ) (x : X) → at < length order → n ≡ get_or order at n → x ≡ get_or cells n x → x ≡ get_or (picked cells order) at x
  read_item = item_picked cells order (inside (length cells) order is)

  pub read_set : (at n : ℕ) (x : X) → at < length order → n ≡ get_or order at n → picked (set cells n x) order ≡ set (picked cells order) at x
  read_set at n x lt read = set_picked cells order (inside (length cells) order is) at n n x lt (sym read) (is.once n (read_inside at n lt read))

  pub read_remove : (at last n : ℕ) (x : X) → at < length order → n ≡ get_or order at n → last ≡ last_place order → picked (swap_remove cells n x) (remove (set order last n) at) ≡ remove (picked cells order) at
  read_remove at last n x lt read end =
      let some : 0 < length cells = omega (arith, lt, is.all) in
      remove_picked cells order (inside (length cells) order is) is at last n n x lt (subst (λ m. m < length order) (sym end) (last_within (length cells) order is some)) (sym read)
      (ap (λ m. get_or order m n) end ∙ last_number (length cells) order is n some)
