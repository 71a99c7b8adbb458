-- What a listing of orders has: so many of what the keys find, which is what the rows have.
use Rattle.std.specs.List.{AllByRecursion, flat_map}
use Rattle.std.specs.Ordering.{is_eq, ordering_reverse}
use Rattle.std.specs.declared.cmp.Ordering.{Ordering}
use Rattle.std.specs.declared.cmp.Ordering.TheVariants.{Less, Equal, Greater}
use Rattle.std.specs.Prelude.{◌||◌, All, IfSome}
use Rattle.std.proofs.Common.{◌≡◌, ◌+◌, ◌<◌, ◌≤◌, ℕ, zero, suc, Bool, true, false, cond, List, [], ◌∷◌, ◌++◌, length, map, take, drop, get_or, Option, Some, None, refl, sym, ap, ap₂, ◌∙◌, subst, append_assoc, append-nil, length-append, arith}
use Rattle.std.proofs.lemmas.List.{drop_all, map-append, take_all, take_at}
use Rattle.std.proofs.Math.Seq.{drop-cons}
use Rattle.ps_time.specs.Key.{key_cmp}
use Rattle.ps_time.specs.Numbers.{most_orders}
use Rattle.ps_time.specs.declared.key.RunKey.{RunKey}
use Rattle.ps_time.proofs.KeyLemmas.{key_cmp_same, key_cmp_total, same_key}
use Rattle.ps_time.proofs.SortedLemmas.{below_all}
use Rattle.run_states.specs.Rows.{IsAscendingRows, find_row}
use Rattle.run_states.specs.declared.row.RunRow.{RunRow}
use Rattle.run_states.specs.declared.answer.Other.{Other}
use Rattle.host_model.specs.Orders.{bodies_to, order_to, orders_from, orders_of, row_orders}
use Rattle.host_model.specs.declared.order.Order.{Order}
use Rattle.host_model.specs.declared.order.OrderBody.{OrderBody}
use Rattle.host_model.proofs.Keyed.{key_is}
use Rattle.host_model.proofs.RowLemmas.{found_of_all}
use Rattle.lead_orders.specs.Listing.{AreAscending, HasFewOthers, HaveOrders, found_orders, is_among, orders_at, orders_of_keys, with_more}

-- ---- places
take_joined : {X : Type 0} (n : ℕ) (xs ys : List X) → take n (take n xs ++ ys) ≡ take n (xs ++ ys)
take_joined zero xs ys = refl
take_joined (suc n) [] ys = refl
take_joined (suc n) (x ∷ xs) ys = ap (λ zs. x ∷ zs) (take_joined n xs ys)

-- more behind more
pub joined : (a b c : List Order) → with_more (with_more a b) c ≡ with_more a (b ++ c)
joined a b c = take_joined most_orders (a ++ b) c ∙ ap (take most_orders) (append_assoc a b c)

-- a full list takes no more
pub full : (a b : List Order) → length a ≡ 64 → with_more a b ≡ a
full a b is = take_at a b most_orders is

-- one more where there is a place
pub one_more : (a : List Order) (x : Order) → length a < 64 → with_more a (x ∷ []) ≡ a ++ x ∷ []
one_more a x place = take_all most_orders (a ++ x ∷ []) (simp length-append (omega (arith, place)))

-- nothing more
pub no_more : (a : List Order) → length a ≤ 64 → with_more a [] ≡ a
no_more a few = take_all most_orders (a ++ []) (simp append-nil few) ∙ append-nil a

-- what is kind after kind is all of them
module _ (f : OrderBody → Order) (o : List Order) where
  kinds : (a b : List OrderBody) → with_more (with_more o (map f a)) (map f b) ≡ with_more o (map f (a ++ b))
  kinds a b = joined o (map f a) (map f b) ∙ ap (with_more o) (sym (map-append f a b))

  pub six_kinds : (a b c d e g : List OrderBody) →
      with_more (with_more (with_more (with_more (with_more (with_more o (map f a)) (map f b)) (map f c)) (map f d)) (map f e)) (map f g) ≡ with_more o (map f (a ++ b ++ c ++ d ++ e ++ g))
  six_kinds a b c d e g =
      ap (λ x. with_more (with_more (with_more (with_more x (map f c)) (map f d)) (map f e)) (map f g)) (kinds a b)
      ∙ (ap (λ x. with_more (with_more (with_more x (map f d)) (map f e)) (map f g)) (kinds (a ++ b) c)
      ∙ (ap (λ x. with_more (with_more x (map f e)) (map f g)) (kinds (a ++ b ++ c) d)
      ∙ (ap (λ x. with_more x (map f g)) (kinds (a ++ b ++ c ++ d) e)
      ∙ kinds (a ++ b ++ c ++ d ++ e) g)))

-- ---- loops
cons_at : {X : Type 0} (xs : List X) (i : ℕ) (x : X) → i < length xs → x ≡ get_or xs i x → drop i xs ≡ x ∷ drop (i + 1) xs
cons_at xs i x lt at =
    let next : suc i ≡ i + 1 = omega arith in
    drop-cons xs i x lt ∙ ap₂ (λ y n. y ∷ drop n xs) (sym at) next

-- the orders to one more participant
pub next_other : (m : ℕ) (r : RunRow) (place i : ℕ) (os : List Other) (o : Other) (a b : List Order) → i < length os → o ≡ get_or os i o → b ≡ with_more a (map (order_to r place) (bodies_to m r o)) →
    with_more a (orders_from m r place (drop i os)) ≡ with_more b (orders_from m r (place + 1) (drop (i + 1) os))
next_other m r place i os o a b lt at is =
    ap (λ xs. with_more a (orders_from m r place xs)) (cons_at os i o lt at)
    ∙ (sym (joined a (map (order_to r place) (bodies_to m r o)) (orders_from m r (place + 1) (drop (i + 1) os)))
    ∙ ap (λ x. with_more x (orders_from m r (place + 1) (drop (i + 1) os))) (sym is))

pub last_other : (m : ℕ) (r : RunRow) (place i : ℕ) (os : List Other) (a : List Order) → length os ≤ i → length a ≤ 64 → with_more a (orders_from m r place (drop i os)) ≡ a
last_other m r place i os a done few = ap (λ xs. with_more a (orders_from m r place xs)) (drop_all i os done) ∙ no_more a few

-- the orders of one more key
pub next_key : (m n : ℕ) (rows : List RunRow) (i : ℕ) (keys : List RunKey) (d : RunKey) (o : Option RunRow) (a b : List Order) → i < length keys → n ≡ m → o ≡ find_row rows (get_or keys i d) → b ≡ with_more a (found_orders n o) →
    with_more a (orders_of_keys m (drop i keys) rows) ≡ with_more b (orders_of_keys m (drop (i + 1) keys) rows)
next_key m n rows i keys d o a b lt now found is =
    let next : suc i ≡ i + 1 = omega arith in
    let cons : drop i keys ≡ get_or keys i d ∷ drop (i + 1) keys = drop-cons keys i d lt ∙ ap (λ k. get_or keys i d ∷ drop k keys) next in
    let same : b ≡ with_more a (found_orders m (find_row rows (get_or keys i d))) = is ∙ ap₂ (λ x y. with_more a (found_orders x y)) now found in
    ap (λ ks. with_more a (orders_of_keys m ks rows)) cons
    ∙ (sym (joined a (found_orders m (find_row rows (get_or keys i d))) (orders_of_keys m (drop (i + 1) keys) rows))
    ∙ ap (λ x. with_more x (orders_of_keys m (drop (i + 1) keys) rows)) (sym same))

pub last_key : (m : ℕ) (rows : List RunRow) (i : ℕ) (keys : List RunKey) (a : List Order) → length keys ≤ i → length a ≤ 64 → with_more a (orders_of_keys m (drop i keys) rows) ≡ a
last_key m rows i keys a done few = ap (λ ks. with_more a (orders_of_keys m ks rows)) (drop_all i keys done) ∙ no_more a few

few_at : (rows : List RunRow) (k : RunKey) (o : Option RunRow) → find_row rows k ≡ o → All HasFewOthers rows → IfSome o HasFewOthers
few_at rows k None e all = tt
few_at rows k (Some r) e all = found_of_all HasFewOthers k r rows all e

pub few_found : (rows : List RunRow) (k : RunKey) → All HasFewOthers rows → IfSome (find_row rows k) HasFewOthers
few_found rows k all = few_at rows k (find_row rows k) refl all

-- ---- keys
reversed : (a b : RunKey) → key_cmp a b ≡ Less → key_cmp b a ≡ Greater
reversed a b below = key_cmp_total.antisymm b a ∙ ap ordering_reverse below

-- no row has a key below all of theirs
none_below : (k : RunKey) (rows : List RunRow) → AllByRecursion (λ y. key_cmp k y.key ≡ Less) rows → find_row rows k ≡ None
none_below k [] all = refl
none_below k (r ∷ rs) all = ap (λ o. cond (is_eq o) (Some r) (find_row rs k)) (reversed k r.key all.0) ∙ none_below k rs all.1

-- nor has one of ascending keys
not_among : (k : RunKey) (keys : List RunKey) → AllByRecursion (λ j. key_cmp k j ≡ Less) keys → is_among keys k ≡ false
not_among k [] all = refl
not_among k (j ∷ js) all = ap₂ (λ o b. is_eq o || b) (reversed k j all.0) (not_among k js all.1)

module _ (m : ℕ) where
  abbrev listed : List RunRow → RunKey → List Order
  listed rows k = found_orders m (find_row rows k)

  none_listed : (keys : List RunKey) → flat_map (listed []) keys ≡ []
  none_listed [] = refl
  none_listed (k ∷ ks) = none_listed ks

  -- a row below all keys is passed over
  passed : (r : RunRow) (rs : List RunRow) (keys : List RunKey) → AllByRecursion (λ j. key_cmp r.key j ≡ Less) keys → flat_map (listed (r ∷ rs)) keys ≡ flat_map (listed rs) keys
  passed r rs [] all = refl
  passed r rs (j ∷ js) all = ap₂ (λ o xs. found_orders m (cond (is_eq o) (Some r) (find_row rs j)) ++ xs) all.0 (passed r rs js all.1)

  own_listed : (r : RunRow) (rs : List RunRow) → listed (r ∷ rs) r.key ≡ row_orders m r
  own_listed r rs = ap (λ o. found_orders m (cond (is_eq o) (Some r) (find_row rs r.key))) (key_cmp_same r.key)

  module _ (r : RunRow) (rs : List RunRow) (up : AllByRecursion (λ y. key_cmp r.key y.key ≡ Less) rs) where
    -- where the row and those behind it have nothing at a key, those behind it have nothing there
    rest_at : (j : RunKey) → listed (r ∷ rs) j ≡ [] → listed rs j ≡ []
    rest_at j none = go (is_eq (key_cmp r.key j)) refl none
      where
        go : (b : Bool) → is_eq (key_cmp r.key j) ≡ b → found_orders m (cond b (Some r) (find_row rs j)) ≡ [] → listed rs j ≡ []
        go true is none = let same : r.key ≡ j = key_is r.key j is in subst (λ k. listed rs k ≡ []) same (ap (found_orders m) (none_below r.key rs up))
        go false is none = none

    rest_same : (j : RunKey) → is_eq (key_cmp r.key j) ≡ true → listed rs j ≡ []
    rest_same j is = let same : r.key ≡ j = key_is r.key j is in subst (λ k. listed rs k ≡ []) same (ap (found_orders m) (none_below r.key rs up))

    -- one row more, where those behind it are covered by whatever keys
    with_row : ((keys : List RunKey) → AreAscending keys → HaveOrders m keys rs → flat_map (listed rs) keys ≡ flat_map (row_orders m) rs) →
        (keys : List RunKey) → AreAscending keys → HaveOrders m keys (r ∷ rs) → flat_map (listed (r ∷ rs)) keys ≡ row_orders m r ++ flat_map (row_orders m) rs
    with_row ih [] order covers =
        let none : row_orders m r ≡ [] = sym (own_listed r rs) ∙ covers r.key refl in
        ih [] tt (λ j out. rest_at j (covers j out)) ∙ ap (λ xs. xs ++ flat_map (row_orders m) rs) (sym none)
    with_row ih (k ∷ ks) order covers = go (with_row ih ks) (key_cmp r.key k) refl
      where
        go : (AreAscending ks → HaveOrders m ks (r ∷ rs) → flat_map (listed (r ∷ rs)) ks ≡ row_orders m r ++ flat_map (row_orders m) rs) → (c : Ordering) → key_cmp r.key k ≡ c → flat_map (listed (r ∷ rs)) (k ∷ ks) ≡ row_orders m r ++ flat_map (row_orders m) rs
        go later Less is =
            let above : AllByRecursion (λ j. key_cmp r.key j ≡ Less) (k ∷ ks) = (is, below_all key_cmp_total (λ j. j) ks r.key k is order.0) in
            let none : row_orders m r ≡ [] = sym (own_listed r rs) ∙ covers r.key (not_among r.key (k ∷ ks) above) in
            passed r rs (k ∷ ks) above ∙ (ih (k ∷ ks) order (λ j out. rest_at j (covers j out)) ∙ ap (λ xs. xs ++ flat_map (row_orders m) rs) (sym none))
        go later Equal is =
            let same : r.key ≡ k = same_key r.key k is in
            let above : AllByRecursion (λ j. key_cmp r.key j ≡ Less) ks = subst (λ x. AllByRecursion (λ j. key_cmp x j ≡ Less) ks) (sym same) order.0 in
            let here : listed (r ∷ rs) k ≡ row_orders m r = ap (λ o. found_orders m (cond (is_eq o) (Some r) (find_row rs k))) is in
            ap₂ (λ a b. a ++ b) here (passed r rs ks above ∙ ih ks order.1 (λ j out. behind j out (is_eq (key_cmp r.key j)) refl))
          where
            behind : (j : RunKey) → is_among ks j ≡ false → (b : Bool) → is_eq (key_cmp r.key j) ≡ b → listed rs j ≡ []
            behind j out true e = rest_same j e
            behind j out false e =
                let same : r.key ≡ k = same_key r.key k is in
                let apart : is_eq (key_cmp k j) ≡ false = subst (λ x. is_eq (key_cmp x j) ≡ false) same e in
                rest_at j (covers j (ap₂ (λ a b. a || b) apart out))
        go later Greater is =
            let under : key_cmp k r.key ≡ Less = key_cmp_total.antisymm k r.key ∙ ap ordering_reverse is in
            let below : AllByRecursion (λ y. key_cmp k y.key ≡ Less) (r ∷ rs) = (under, below_all key_cmp_total (λ (y : RunRow). y.key) rs k r.key under up) in
            let none : listed (r ∷ rs) k ≡ [] = ap (found_orders m) (none_below k (r ∷ rs) below) in
            ap (λ xs. xs ++ flat_map (listed (r ∷ rs)) ks) none ∙ later order.1 (λ j out. rest j out none (is_eq (key_cmp k j)) refl)
          where
            rest : (j : RunKey) → is_among ks j ≡ false → listed (r ∷ rs) k ≡ [] → (b : Bool) → is_eq (key_cmp k j) ≡ b → listed (r ∷ rs) j ≡ []
            rest j out none true e = let same : k ≡ j = key_is k j e in subst (λ x. listed (r ∷ rs) x ≡ []) same none
            rest j out none false e = covers j (ap₂ (λ a b. a || b) e out)

  -- what the keys find is what the rows have
  covered : (rows : List RunRow) → IsAscendingRows rows → (keys : List RunKey) → AreAscending keys → HaveOrders m keys rows → flat_map (listed rows) keys ≡ flat_map (row_orders m) rows
  covered [] up keys order covers = none_listed keys
  covered (r ∷ rs) up keys order covers = with_row r rs up.0 (covered rs up.1) keys order covers

  pub listing_of : (rows : List RunRow) (keys : List RunKey) → IsAscendingRows rows → AreAscending keys → HaveOrders m keys rows → orders_at m keys rows ≡ orders_of rows m
  listing_of rows keys up order covers = ap (take most_orders) (covered rows up keys order covers)
