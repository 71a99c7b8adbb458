-- A list in the order of its keys, with one key more.
use Rattle.std.proofs.Common.{◌≡◌, Bool, true, false, ◌||◌, List, [], ◌∷◌, ◌++◌, map, refl, ap, sym, subst, ◌∙◌}
use Rattle.std.specs.Cmp.{IsTotalOrder}
use Rattle.std.specs.List.{AllByRecursion, list_any, fold}
use Rattle.std.specs.Ordering.{is_eq, match_ordering, ordering_reverse}
use Rattle.std.specs.declared.cmp.Ordering.{Ordering}
use Rattle.std.specs.declared.cmp.Ordering.TheVariants.{Less, Equal, Greater}
use Rattle.ps_time.specs.Sorted.{IsAscending}
use Rattle.ps_time.proofs.SortedLemmas.{below_all}
use Rattle.result_table.specs.Upsert.{upsert, with_key, occurring}

flip : (c : Ordering) → is_eq (ordering_reverse c) ≡ is_eq c
flip Less = refl
flip Equal = refl
flip Greater = refl

own : (c : Ordering) → c ≡ ordering_reverse c → c ≡ Equal
own Less is = absurd cc
own Equal is = refl
own Greater is = absurd cc

module _ {K : Type 0} {cmp : K → K → Ordering} (o : IsTotalOrder cmp) where
  pub flipped : (a b : K) → is_eq (cmp a b) ≡ is_eq (cmp b a)
  flipped a b = rw (o.antisymm a b) (flip (cmp b a))

  pub same_self : (k : K) → cmp k k ≡ Equal
  same_self k = own (cmp k k) (o.antisymm k k)

module _ {K X : Type 0} {cmp : K → K → Ordering} (o : IsTotalOrder cmp) (key : X → K) where
  -- what holds of every item, of the new one and of each changed one holds afterwards
  pub all-upsert : (P : X → Type 0) (k : K) (new : X) (change : X → X) → P new → ((x : X) → P x → P (change x)) → (xs : List X) → AllByRecursion P xs → AllByRecursion P (upsert cmp key k new change xs)
  all-upsert P k new change here keeps [] all = (here, tt)
  all-upsert P k new change here keeps (x ∷ xs) all =
      let rest = upsert cmp key k new change xs in
      elim (cmp k (key x)) as (λ c. AllByRecursion P (match_ordering c (new ∷ x ∷ xs) (change x ∷ xs) (x ∷ rest))) [
        | Less ↦ (here, all)
        | Equal ↦ (keeps x all.0, all.1)
        | Greater ↦ (all.0, all-upsert P k new change here keeps xs all.1)
      ]

  -- the keys still ascend
  pub ascending-upsert : (k : K) (new : X) (change : X → X) → key new ≡ k → ((x : X) → key (change x) ≡ key x) → (xs : List X) → IsAscending cmp key xs → IsAscending cmp key (upsert cmp key k new change xs)
  ascending-upsert k new change is keeps [] up = (tt, tt)
  ascending-upsert k new change is keeps (x ∷ xs) up =
      let rest = upsert cmp key k new change xs in
      let cases = elim (cmp k (key x)) as (λ c. cmp k (key x) ≡ c → IsAscending cmp key (match_ordering c (new ∷ x ∷ xs) (change x ∷ xs) (x ∷ rest))) [
        | Less ↦ λ below. (subst (λ j. AllByRecursion (λ y. cmp j (key y) ≡ Less) (x ∷ xs)) (sym is) (below, below_all o key xs k (key x) below up.0), up)
        | Equal ↦ λ same. (subst (λ j. AllByRecursion (λ y. cmp j (key y) ≡ Less) xs) (sym (keeps x)) up.0, up.1)
        | Greater ↦ λ over.
            let below : cmp (key x) (key new) ≡ Less = rw (is, o.antisymm (key x) k, over) refl in
            (all-upsert (λ y. cmp (key x) (key y) ≡ Less) k new change below (λ y less. rw (keeps y) less) xs up.0, ascending-upsert k new change is keeps xs up.1)
      ] in
      cases refl

  -- below all keys none is equal
  pub none_equal : (k : K) (ks : List K) → AllByRecursion (λ j. cmp k j ≡ Less) ks → list_any (λ j. is_eq (cmp k j)) ks ≡ false
  none_equal k [] all = refl
  none_equal k (j ∷ js) all = rw all.0 (none_equal k js all.1)

  -- so nothing changes there
  others : (k : K) (item next : K → X) → ((j : K) → is_eq (cmp k j) ≡ false → next j ≡ item j) → (ks : List K) → AllByRecursion (λ j. cmp k j ≡ Less) ks → map next ks ≡ map item ks
  others k item next stay [] all = refl
  others k item next stay (j ∷ js) all = rw (stay j (rw all.0 refl), others k item next stay js all.1) refl

  -- a key that is equal to the first is below the others
  same_below : (a b : K) (ks : List K) → cmp a b ≡ Equal → AllByRecursion (λ j. cmp b j ≡ Less) ks → AllByRecursion (λ j. cmp a j ≡ Less) ks
  same_below a b [] same all = tt
  same_below a b (j ∷ js) same all = (rw (o.congr a b j same) all.0, same_below a b js same all.1)

  -- a list with an item for each key, after one key came
  pub upsert-map : (k : K) (new : X) (change : X → X) (item next : K → X) → ((j : K) → key (item j) ≡ j) → ((j : K) → is_eq (cmp k j) ≡ false → next j ≡ item j)
      → (ks : List K) → IsAscending cmp (λ j. j) ks → (list_any (λ j. is_eq (cmp k j)) ks ≡ false → next k ≡ new)
      → ((j : K) → cmp k j ≡ Equal → list_any (λ i. is_eq (cmp k i)) ks ≡ true → next j ≡ change (item j))
      → map next (with_key cmp ks k) ≡ upsert cmp key k new change (map item ks)
  upsert-map k new change item next keyed stay [] up fresh known = ap (λ x. x ∷ []) (fresh refl)
  upsert-map k new change item next keyed stay (j ∷ js) up fresh known =
      let more = with_key cmp js k in
      let rest = upsert cmp key k new change (map item js) in
      let cases = elim (cmp k j) as (λ c. cmp k j ≡ c → (is_eq c || list_any (λ i. is_eq (cmp k i)) js ≡ false → next k ≡ new)
      → ((i : K) → cmp k i ≡ Equal → is_eq c || list_any (λ i. is_eq (cmp k i)) js ≡ true → next i ≡ change (item i))
      → map next (match_ordering c (k ∷ j ∷ js) (j ∷ js) (j ∷ more)) ≡ match_ordering c (new ∷ item j ∷ map item js) (change (item j) ∷ map item js) (item j ∷ rest)) [
        | Less ↦ λ is fresh known.
            let all = below_all o (λ i. i) js k j is up.0 in
            rw (fresh (none_equal k js all), stay j (rw is refl), others k item next stay js all) refl
        | Equal ↦ λ is fresh known. rw (known j is refl, others k item next stay js (same_below k j js is up.0)) refl
        | Greater ↦ λ is fresh known. rw (stay j (rw is refl), upsert-map k new change item next keyed stay js up.1 fresh known) refl
      ] in
      rw (keyed j) (cases refl fresh known)

module _ {K : Type 0} {cmp : K → K → Ordering} (o : IsTotalOrder cmp) where
  fold_more : (done ks : List K) (k : K) → fold (with_key cmp) done (ks ++ k ∷ []) ≡ with_key cmp (fold (with_key cmp) done ks) k
  fold_more done [] k = refl
  fold_more done (j ∷ js) k = fold_more (with_key cmp done j) js k

  -- the keys that occur, after one more
  pub occurring-more : (ks : List K) (k : K) → occurring cmp (ks ++ k ∷ []) ≡ with_key cmp (occurring cmp ks) k
  occurring-more ks k = fold_more [] ks k

  ascending_from : (done ks : List K) → IsAscending cmp (λ j. j) done → IsAscending cmp (λ j. j) (fold (with_key cmp) done ks)
  ascending_from done [] up = up
  ascending_from done (j ∷ js) up = ascending_from (with_key cmp done j) js (ascending-upsert o (λ i. i) j j (λ i. i) refl (λ i. refl) done up)

  -- they ascend
  pub ascending-occurring : (ks : List K) → IsAscending cmp (λ j. j) (occurring cmp ks)
  ascending-occurring ks = ascending_from [] ks tt

or_front : (a b c : Bool) → a || (b || c) ≡ b || c || a
or_front true true c = refl
or_front true false true = refl
or_front true false false = refl
or_front false true c = refl
or_front false false true = refl
or_front false false false = refl

or_nothing : (a : Bool) → a ≡ a || false
or_nothing true = refl
or_nothing false = refl

or_same : (a b : Bool) → a || b ≡ a || b || a
or_same true b = refl
or_same false true = refl
or_same false false = refl

or_last : (a b c : Bool) → a || (b || c) ≡ a || b || c
or_last true b c = refl
or_last false b c = refl

-- a test that takes equal keys for one is passed by a key that occurs exactly where it is by one of the list
module _ {K : Type 0} {cmp : K → K → Ordering} (test : K → Bool) (alike : (i j : K) → cmp i j ≡ Equal → test i ≡ test j) where
  any_with : (ks : List K) (k : K) → list_any test (with_key cmp ks k) ≡ list_any test ks || test k
  any_with [] k = sym (or_nothing (test k))
  any_with (j ∷ js) k =
      let more = with_key cmp js k in
      let cases = elim (cmp k j) as (λ c. cmp k j ≡ c → list_any test (match_ordering c (k ∷ j ∷ js) (j ∷ js) (j ∷ more)) ≡ test j || list_any test js || test k) [
        | Less ↦ λ is. or_front (test k) (test j) (list_any test js)
        | Equal ↦ λ is. rw (alike k j is) (or_same (test j) (list_any test js))
        | Greater ↦ λ is. rw (any_with js k) (or_last (test j) (list_any test js) (test k))
      ] in
      cases refl

  any_from : (done ks : List K) → list_any test (fold (with_key cmp) done ks) ≡ list_any test done || list_any test ks
  any_from done [] = or_nothing (list_any test done)
  any_from done (j ∷ js) = any_from (with_key cmp done j) js ∙ rw (any_with done j) (sym (or_last (list_any test done) (test j) (list_any test js)))

  pub any_occurring : (ks : List K) → list_any test (occurring cmp ks) ≡ list_any test ks
  any_occurring ks = any_from [] ks
