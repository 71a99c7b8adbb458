-- A list that a stable sort leaves, known by the order of its items and by which of those that tie come first.
use Rattle.std.proofs.Common.{◌≡◌, ℕ, suc, ◌+◌, ◌<◌, List, [], ◌∷◌, ◌++◌, length, get_or, Bool, cond, not, ◌&&◌, true, false, refl, ap, ap₂, sym, ◌∙◌, arith, append-nil}
use Rattle.std.specs.List.{filter, AllByRecursion}
use Rattle.std.specs.List.Sorted.{IsSortedBy, ties}
use Rattle.std.specs.declared.cmp.Ordering.{Ordering}
use Rattle.std.specs.declared.cmp.Ordering.TheVariants.{Less, Equal, Greater}
use Rattle.std.specs.Ordering.{is_lt, match_ordering, ordering_reverse}
use Rattle.std.specs.Cmp.{IsTotalOrder, IsStrictWeakOrder}
use Rattle.std.proofs.lemmas.List.Sorted.{sorted_far, ranks_by}
use Rattle.ps_time.specs.Sorted.{insert_key}

all_from : {X : Type 0} (P : X → Type 0) (xs : List X) → ((i : ℕ) (d : X) → i < length xs → P (get_or xs i d)) → AllByRecursion P xs
all_from P [] at = tt
all_from P (x ∷ xs) at = (at 0 x (omega arith), all_from P xs (λ i d within. at (suc i) d (omega arith)))

-- lists that begin alike and have the same items of a kind go on with the same
rest_of : {X : Type 0} (p : X → Bool) (y : X) (ys zs : List X) → filter p (y ∷ ys) ≡ filter p (y ∷ zs) → filter p ys ≡ filter p zs
rest_of p y ys zs = elim (p y) as (λ b. cond b (y ∷ filter p ys) (filter p ys) ≡ cond b (y ∷ filter p zs) (filter p zs) → filter p ys ≡ filter p zs) [
  | true ↦ λ e. cc
  | false ↦ λ e. e
]

module _ {X : Type 0} {cmp : X → X → Ordering} (o : IsTotalOrder cmp) where
  abbrev pub lt : X → X → Bool
  lt x y = is_lt (cmp x y)

  -- no item is below one before it
  abbrev pub Rising : List X → Type 0
  Rising [] = Unit {0}
  Rising (x ∷ xs) = AllByRecursion (λ y. lt y x ≡ false) xs × Rising xs

  weak : IsStrictWeakOrder lt
  weak = ranks_by o (λ x. x)

  pub rising_sorted : (xs : List X) → IsSortedBy lt xs → Rising xs
  rising_sorted [] up = tt
  rising_sorted (x ∷ xs) up = (
    all_from (λ y. lt y x ≡ false) xs (λ i d within. sorted_far lt weak (x ∷ xs) up 0 (suc i) d (omega arith) (omega arith)),
    rising_sorted xs (λ k d low within. let next : suc k + 1 ≡ suc (k + 1) = omega arith in rw next at (up (suc k) d (omega arith) (omega arith))),
  )

  -- what isn't below one item isn't below what comes before that
  not_below : (xs : List X) (a b : X) → lt a b ≡ false → AllByRecursion (λ y. lt y a ≡ false) xs → AllByRecursion (λ y. lt y b ≡ false) xs
  not_below [] a b above all = tt
  not_below (x ∷ xs) a b above all = (weak.chain x a b all.0 above, not_below xs a b above all.1)

  all_put : (P : X → Type 0) (xs : List X) (y : X) → AllByRecursion P xs → P y → AllByRecursion P (insert_key cmp (λ x. x) xs y)
  all_put P [] y all here = (here, tt)
  all_put P (x ∷ xs) y all here =
      let rest = insert_key cmp (λ x. x) xs y in
      elim (cmp x y) as (λ c. AllByRecursion P (match_ordering c (x ∷ rest) (x ∷ rest) (y ∷ x ∷ xs))) [
        | Less ↦ (all.0, all_put P xs y all.1 here)
        | Equal ↦ (all.0, all_put P xs y all.1 here)
        | Greater ↦ (here, all)
      ]

  pub rising_put : (xs : List X) (y : X) → Rising xs → Rising (insert_key cmp (λ x. x) xs y)
  rising_put [] y up = (tt, tt)
  rising_put (x ∷ xs) y up =
      let rest = insert_key cmp (λ x. x) xs y in
      let cases = elim (cmp x y) as (λ c. cmp x y ≡ c → Rising (match_ordering c (x ∷ rest) (x ∷ rest) (y ∷ x ∷ xs))) [
        | Less ↦ λ is. (all_put (λ z. lt z x ≡ false) xs y up.0 (rw (o.antisymm y x, is) refl), rising_put xs y up.1)
        | Equal ↦ λ is. (all_put (λ z. lt z x ≡ false) xs y up.0 (rw (o.antisymm y x, is) refl), rising_put xs y up.1)
        | Greater ↦ λ is. let above : lt x y ≡ false = rw is refl in ((above, not_below xs x y above up.0), up)
      ] in
      cases refl

  -- what is below an item is below what comes after that
  below_far : (a b z : X) → lt a b ≡ true → lt z b ≡ false → lt a z ≡ true
  below_far a b z below after =
      let cases = elim (lt a z) as (λ v. lt a z ≡ v → v ≡ true) [
        | true ↦ λ is. refl
        | false ↦ λ is. let over = weak.chain a z b is after in cc
      ] in
      cases refl

  below_all : (a b : X) (zs : List X) → lt a b ≡ true → AllByRecursion (λ z. lt z b ≡ false) zs → AllByRecursion (λ z. lt a z ≡ true) zs
  below_all a b [] below after = tt
  below_all a b (z ∷ zs) below after = (below_far a b z below after.0, below_all a b zs below after.1)

  -- an item that is below all ties with none
  none_ties : (d : X) (xs : List X) → AllByRecursion (λ z. lt d z ≡ true) xs → filter (ties lt d) xs ≡ []
  none_ties d [] all = refl
  none_ties d (x ∷ xs) all = rw all.0 (none_ties d xs all.1)

  same : (x : X) → cmp x x ≡ Equal
  same x =
      elim (cmp x x) as (λ c. c ≡ ordering_reverse c → c ≡ Equal) [
        | Less ↦ λ is. cc
        | Equal ↦ λ is. refl
        | Greater ↦ λ is. cc
      ] (o.antisymm x x)

  -- only what compares equal ties
  pub tie_equal : (d y : X) → ties lt d y ≡ true → cmp d y ≡ Equal
  tie_equal d y =
      rw (o.antisymm y d) (elim (cmp d y) as (λ c. (not (is_lt c) && not (is_lt (ordering_reverse c))) ≡ true → c ≡ Equal) [
        | Less ↦ λ is. cc
        | Equal ↦ λ is. refl
        | Greater ↦ λ is. cc
      ])

  -- an item is put after those that tie with it
  pub filter_put : (d : X) (xs : List X) (y : X) → Rising xs → filter (ties lt d) (insert_key cmp (λ x. x) xs y) ≡ filter (ties lt d) xs ++ filter (ties lt d) (y ∷ [])
  filter_put d [] y up = refl
  filter_put d (x ∷ xs) y up =
      let p = ties lt d in
      let rest = insert_key cmp (λ x. x) xs y in
      let more = filter p (y ∷ []) in
      let goes_on : cond (p x) (x ∷ filter p rest) (filter p rest) ≡ cond (p x) (x ∷ filter p xs) (filter p xs) ++ more =
      elim (p x) as (λ b. cond b (x ∷ filter p rest) (filter p rest) ≡ cond b (x ∷ filter p xs) (filter p xs) ++ more) [
        | true ↦ ap (λ l. x ∷ l) (filter_put d xs y up.1)
        | false ↦ filter_put d xs y up.1
      ] in
      let cases = elim (cmp x y) as (λ c. cmp x y ≡ c → filter p (match_ordering c (x ∷ rest) (x ∷ rest) (y ∷ x ∷ xs)) ≡ filter p (x ∷ xs) ++ more) [
        | Less ↦ λ is. goes_on
        | Equal ↦ λ is. goes_on
        | Greater ↦ λ is.
            let here = elim (p y) as (λ b. p y ≡ b → cond b (y ∷ filter p (x ∷ xs)) (filter p (x ∷ xs)) ≡ filter p (x ∷ xs) ++ cond b (y ∷ []) []) [
              | true ↦ λ tie.
                  let below : lt d x ≡ true = rw (o.congr d y x (tie_equal d y tie), o.antisymm y x, is) refl in
                  let none : filter p (x ∷ xs) ≡ [] = none_ties d (x ∷ xs) (below, below_all d x xs below up.0) in
                  ap (λ l. y ∷ l) none ∙ sym (ap (λ l. l ++ y ∷ []) none)
              | false ↦ λ tie. sym (append-nil (filter p (x ∷ xs)))
            ] in
            here refl
      ] in
      cases refl

  -- rising lists that have the same items of each kind in the same order are one
  pub same_rising : (ys zs : List X) → Rising ys → Rising zs → ((d : X) → filter (ties lt d) ys ≡ filter (ties lt d) zs) → ys ≡ zs
  same_rising [] [] up upz kinds = refl
  same_rising [] (z ∷ zs) up upz kinds = let here = rw (same z) at (kinds z) in cc
  same_rising (y ∷ ys) [] up upz kinds = let here = rw (same y) at (kinds y) in cc
  same_rising (y ∷ ys) (z ∷ zs) up upz kinds =
      let cases = elim (cmp y z) as (λ c. cmp y z ≡ c → y ∷ ys ≡ z ∷ zs) [
        | Less ↦ λ is.
            let below : lt y z ≡ true = rw is refl in
            let none : filter (ties lt y) (z ∷ zs) ≡ [] = none_ties y (z ∷ zs) (below, below_all y z zs below upz.0) in
            let here : y ∷ filter (ties lt y) ys ≡ [] = rw (same y) at (kinds y) ∙ none in
            cc
        | Equal ↦ λ is.
            let back : cmp z y ≡ Equal = rw (o.antisymm z y, is) refl in
            let here : y ∷ filter (ties lt y) ys ≡ z ∷ filter (ties lt y) zs = rw (same y, is, back) at (kinds y) in
            let e : y ≡ z = cc in
            ap₂ (λ x l. x ∷ l) e (same_rising ys zs up.1 upz.1 (λ d. rest_of (ties lt d) y ys zs (rw (← e) at (kinds d))))
        | Greater ↦ λ is.
            let below : lt z y ≡ true = rw (o.antisymm z y, is) refl in
            let none : filter (ties lt z) (y ∷ ys) ≡ [] = none_ties z (y ∷ ys) (below, below_all z y ys below up.0) in
            let here : [] ≡ z ∷ filter (ties lt z) zs = sym none ∙ rw (same z) at (kinds z) in
            cc
      ] in
      cases refl
