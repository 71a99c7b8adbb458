-- The pairs of a group as a set, and in their order.
use Rattle.std.proofs.Common.{◌≡◌, ◌≢◌, ◌<◌, ◌⊎◌, ◌↔◌, ℕ, zero, suc, ◌&&◌, ◌||◌, List, [], ◌∷◌, ◌++◌, map, filter, flat_map, length, Contains, Bool, true, false, cond, Option, Some, None, Less, Equal, bytes_eq, nat_cmp, slice_index_or, refl, sym, ap, subst, ◌∙◌, arith, inl, inr, ⊎_elim}
use Rattle.std.specs.Cmp.Lexicographic.{slice_cmp}
use Rattle.std.specs.List.{AllByRecursion}
use Rattle.std.specs.List.Sorted.{IsStrictlySortedBy}
use Rattle.std.proofs.lemmas.Cmp.{nat_list_cmp_total, tied_itself}
use Rattle.std.proofs.lemmas.List.Kept.{IsStrictlySortedBy-filter}
use Rattle.std.proofs.lemmas.Slice.Eq.{bytes_eq-Decides}
use Rattle.mesh_parts.specs.declared.group.Group.{Group}
use Rattle.mesh_parts.specs.declared.group.Group.TheVariants.{List as list, Mesh as mesh, Disjoint as disjoint}
use Rattle.mesh_parts.specs.declared.group.Pair.{Pair}
use Rattle.mesh_parts.specs.Group.{has, alone, apart, joins, single, pair, joined, pairs_at, pairs_of}
use Rattle.mesh_parts.specs.Named.{Ascend}
use Rattle.mesh_parts.specs.Pairs.{HasBoth, HasAlone, IsMemberOf, IsMember, pair_cmp}

-- ---- elements of lists, by recursion

abbrev In : {X : Type 0} → X → List X → Type 0
In x [] = ⊥
In x (y ∷ ys) = (y ≡ x) ⊎ In x ys

module _ {X : Type 0} where
  in_at : (xs : List X) (x : X) (k : ℕ) → k < length xs → slice_index_or xs k x ≡ x → In x xs
  in_at [] x k here is = absurd (omega arith)
  in_at (y ∷ ys) x zero here is = inl is
  in_at (y ∷ ys) x (suc k) here is = inr (in_at ys x k (omega arith) is)

  to_in : (xs : List X) (x : X) → Contains xs x → In x xs
  to_in xs x has = in_at xs x has.0 has.1 has.2

  from_in : (xs : List X) (x : X) → In x xs → Contains xs x
  from_in [] x is = absurd is
  from_in (y ∷ ys) x (inl is) = (0, omega arith, is)
  from_in (y ∷ ys) x (inr is) = let later = from_in ys x is in (suc later.0, omega (arith, later.1), later.2)

  in_left : (xs ys : List X) (x : X) → In x xs → In x (xs ++ ys)
  in_left [] ys x is = absurd is
  in_left (z ∷ xs) ys x (inl is) = inl is
  in_left (z ∷ xs) ys x (inr is) = inr (in_left xs ys x is)

  in_right : (xs ys : List X) (x : X) → In x ys → In x (xs ++ ys)
  in_right [] ys x is = is
  in_right (z ∷ xs) ys x is = inr (in_right xs ys x is)

  in_cases : (xs ys : List X) (x : X) → In x (xs ++ ys) → In x xs ⊎ In x ys
  in_cases [] ys x is = inr is
  in_cases (z ∷ xs) ys x (inl is) = inl (inl is)
  in_cases (z ∷ xs) ys x (inr is) = ⊎_elim (λ h. inl (inr h)) inr (in_cases xs ys x is)

-- what a filter and a map give
record Comes {X Y : Type 0} (f : X → Y) (test : X → Bool) (xs : List X) (y : Y) : Type 0 where
  from : X
  there : In from xs
  passes : test from ≡ true
  is : f from ≡ y

module _ {X Y : Type 0} (f : X → Y) (test : X → Bool) where
  comes_later : (x : X) (xs : List X) (y : Y) → Comes f test xs y → Comes f test (x ∷ xs) y
  comes_later x xs y c = record { from = c.from; there = inr c.there; passes = c.passes; is = c.is }

  comes : (xs : List X) (y : Y) → In y (map f (filter test xs)) → Comes f test xs y
  comes [] y is = absurd is
  comes (x ∷ xs) y is = by_test (λ later. comes_later x xs y (comes xs y later)) (test x) refl is
    where
      by_test : (In y (map f (filter test xs)) → Comes f test (x ∷ xs) y) → (b : Bool) → test x ≡ b → In y (map f (cond b (x ∷ filter test xs) (filter test xs))) → Comes f test (x ∷ xs) y
      by_test later true passes (inl is) = record { from = x; there = inl refl; passes = passes; is = is }
      by_test later true passes (inr is) = later is
      by_test later false fails is = later is

  kept_in : (xs : List X) (x : X) → In x xs → test x ≡ true → In (f x) (map f (filter test xs))
  kept_in [] x is passes = absurd is
  kept_in (z ∷ xs) x (inl is) passes = let here : test z ≡ true = ap test is ∙ passes in rw here (inl (ap f is))
  kept_in (z ∷ xs) x (inr is) passes =
      elim (test z) as (λ b. In (f x) (map f (cond b (z ∷ filter test xs) (filter test xs)))) [
        | true ↦ inr (kept_in xs x is passes)
        | false ↦ kept_in xs x is passes
      ]

module _ {X Y : Type 0} (f : X → List Y) where
  flat_from : (xs : List X) (y : Y) → In y (flat_map f xs) → (x : X) × In x xs × In y (f x)
  flat_from [] y is = absurd is
  flat_from (x ∷ xs) y is = ⊎_elim (λ h. (x, inl refl, h)) (λ h. let later = flat_from xs y h in (later.0, inr later.1, later.2)) (in_cases (f x) (flat_map f xs) y is)

  flat_in : (xs : List X) (x : X) (y : Y) → In x xs → In y (f x) → In y (flat_map f xs)
  flat_in [] x y is there = absurd is
  flat_in (z ∷ xs) x y (inl is) there = in_left (f z) (flat_map f xs) y (subst (λ w. In y (f w)) (sym is) there)
  flat_in (z ∷ xs) x y (inr is) there = in_right (f z) (flat_map f xs) y (flat_in xs x y is there)

-- ---- the tests of a group

has_in : (names : List (List ℕ)) (name : List ℕ) → has names name ≡ true → In name names
has_in [] name is = absurd cc
has_in (n ∷ ns) name is = by_test (has_in ns name) (bytes_eq n name) refl is
  where
    by_test : (has ns name ≡ true → In name ns) → (b : Bool) → bytes_eq n name ≡ b → (b || has ns name) ≡ true → In name (n ∷ ns)
    by_test later true same is = inl ((bytes_eq-Decides n name).0 same)
    by_test later false other is = inr (later is)

in_has : (names : List (List ℕ)) (name : List ℕ) → In name names → has names name ≡ true
in_has [] name is = absurd is
in_has (n ∷ ns) name (inl is) = rw ((bytes_eq-Decides n name).1 is) refl
in_has (n ∷ ns) name (inr is) =
    elim (bytes_eq n name) as (λ b. (b || has ns name) ≡ true) [
      | true ↦ refl
      | false ↦ in_has ns name is
    ]

has_is : (names : List (List ℕ)) (name : List ℕ) → has names name ≡ true → Contains names name
has_is names name is = from_in names name (has_in names name is)

is_has : (names : List (List ℕ)) (name : List ℕ) → Contains names name → has names name ≡ true
is_has names name is = in_has names name (to_in names name is)

both_true : (a b : Bool) → (a && b) ≡ true → (a ≡ true) × (b ≡ true)
both_true true b is = (refl, is)
both_true false b is = absurd cc

either_true : (a b : Bool) → (a || b) ≡ true → (a ≡ true) ⊎ (b ≡ true)
either_true true b is = inl refl
either_true false b is = inr is

true_both : (a b : Bool) → a ≡ true → b ≡ true → (a && b) ≡ true
true_both a b one two = rw (one, two) refl

true_left : (a b : Bool) → a ≡ true → (a || b) ≡ true
true_left a b one = rw one refl

true_right : (a b : Bool) → b ≡ true → (a || b) ≡ true
true_right true b two = refl
true_right false b two = two

alone_is : (group : Group) (host : List ℕ) → alone group host ≡ true → HasAlone group host
alone_is (list hosts) host is = has_is hosts host is
alone_is (mesh hosts) host is = absurd cc
alone_is (disjoint some others) host is = absurd cc

is_alone : (group : Group) (host : List ℕ) → HasAlone group host → alone group host ≡ true
is_alone (list hosts) host is = is_has hosts host is
is_alone (mesh hosts) host is = absurd is
is_alone (disjoint some others) host is = absurd is

apart_is : (group : Group) (a b : List ℕ) → apart group a b ≡ true → HasBoth group a b
apart_is (list hosts) a b is = absurd cc
apart_is (mesh hosts) a b is = let two = both_true (has hosts a) (has hosts b) is in (has_is hosts a two.0, has_is hosts b two.1)
apart_is (disjoint some others) a b is =
    ⊎_elim
    (λ h. let two = both_true (has some a) (has others b) h in inl (has_is some a two.0, has_is others b two.1))
    (λ h. let two = both_true (has others a) (has some b) h in inr (has_is others a two.0, has_is some b two.1))
    (either_true (has some a && has others b) (has others a && has some b) is)

is_apart : (group : Group) (a b : List ℕ) → HasBoth group a b → apart group a b ≡ true
is_apart (list hosts) a b is = absurd is
is_apart (mesh hosts) a b is = true_both (has hosts a) (has hosts b) (is_has hosts a is.0) (is_has hosts b is.1)
is_apart (disjoint some others) a b (inl is) =
    true_left (has some a && has others b) (has others a && has some b) (true_both (has some a) (has others b) (is_has some a is.0) (is_has others b is.1))
is_apart (disjoint some others) a b (inr is) =
    true_right (has some a && has others b) (has others a && has some b) (true_both (has others a) (has some b) (is_has others a is.0) (is_has some b is.1))

joins_is : (group : Group) (a b : List ℕ) → joins group a b ≡ true → (a ≢ b) × HasBoth group a b
joins_is group a b is = by_test (bytes_eq a b) refl is
  where
    by_test : (t : Bool) → bytes_eq a b ≡ t → cond t false (apart group a b) ≡ true → (a ≢ b) × HasBoth group a b
    by_test true same is = absurd cc
    by_test false other is = (λ e. let same = (bytes_eq-Decides a b).1 e in cc, apart_is group a b is)

is_joins : (group : Group) (a b : List ℕ) → a ≢ b → HasBoth group a b → joins group a b ≡ true
is_joins group a b differ is = by_test (bytes_eq a b) refl
  where
    by_test : (t : Bool) → bytes_eq a b ≡ t → cond t false (apart group a b) ≡ true
    by_test true same = absurd (differ ((bytes_eq-Decides a b).0 same))
    by_test false other = is_apart group a b is

-- ---- the pairs are the members

module _ (hosts : List (List ℕ)) (group : Group) where
  single_is : (a : List ℕ) (p : Pair) → In a hosts → In p (single group a) → IsMember hosts group p
  single_is a p there is = by_test (alone group a) refl is
    where
      by_test : (b : Bool) → alone group a ≡ b → In p (cond b (record { first = a; second = None } ∷ []) []) → IsMember hosts group p
      by_test true holds (inl is) = subst (IsMember hosts group) is (from_in hosts a there, alone_is group a holds)
      by_test true holds (inr is) = absurd is
      by_test false fails is = absurd is

  joined_is : (a : List ℕ) (p : Pair) → In a hosts → In p (joined group hosts a) → IsMember hosts group p
  joined_is a p there is =
      let c = comes (pair a) (joins group a) hosts p is in
      let two = joins_is group a c.from c.passes in
      subst (IsMember hosts group) c.is (from_in hosts a there, from_in hosts c.from c.there, two.0, two.1)

  sound : (p : Pair) → Contains (pairs_of hosts group) p → IsMember hosts group p
  sound p is =
      let at = flat_from (pairs_at group hosts) hosts p (to_in (pairs_of hosts group) p is) in
      ⊎_elim (single_is at.0 p at.1) (joined_is at.0 p at.1) (in_cases (single group at.0) (joined group hosts at.0) p at.2)

  led : (first : List ℕ) (second : Option (List ℕ)) → IsMemberOf hosts group first second → In (record { first = first; second = second }) (pairs_at group hosts first)
  led first None is =
      let holds = is_alone group first is.1 in
      in_left (single group first) (joined group hosts first) _ (rw holds (inl refl))
  led first (Some second) is =
      in_right (single group first) (joined group hosts first) _ (kept_in (pair first) (joins group first) hosts second (to_in hosts second is.1) (is_joins group first second is.2 is.3))

  leads_from : (first : List ℕ) (second : Option (List ℕ)) → IsMemberOf hosts group first second → In first hosts
  leads_from first None is = to_in hosts first is.0
  leads_from first (Some second) is = to_in hosts first is.0

  complete : (p : Pair) → IsMember hosts group p → Contains (pairs_of hosts group) p
  complete p is = from_in (pairs_of hosts group) p (flat_in (pairs_at group hosts) hosts p.first p (leads_from p.first p.second is) (led p.first p.second is))

  pub members : (p : Pair) → Contains (pairs_of hosts group) p ↔ IsMember hosts group p
  members p = (sound p, complete p)

-- ---- the pairs ascend

all_both : {X : Type 0} (P : X → Type 0) (xs ys : List X) → AllByRecursion P xs → AllByRecursion P ys → AllByRecursion P (xs ++ ys)
all_both P [] ys one two = two
all_both P (x ∷ xs) ys one two = (one.0, all_both P xs ys one.1 two)

all_weaker : {X : Type 0} (P Q : X → Type 0) → ((x : X) → P x → Q x) → (xs : List X) → AllByRecursion P xs → AllByRecursion Q xs
all_weaker P Q more [] all = tt
all_weaker P Q more (x ∷ xs) all = (more x all.0, all_weaker P Q more xs all.1)

-- one list behind another, where each of the first is below each of the second
sorted_both : (a : List ℕ) (xs ys : List Pair) → AllByRecursion (λ p. p.first ≡ a) xs → AllByRecursion (λ q. slice_cmp nat_cmp a q.first ≡ Less) ys → IsStrictlySortedBy pair_cmp xs → IsStrictlySortedBy pair_cmp ys
    → IsStrictlySortedBy pair_cmp (xs ++ ys)
unfolding IsStrictlySortedBy
sorted_both a [] ys led later one two = two
sorted_both a (x ∷ xs) ys led later one two = (
  all_both (λ y. pair_cmp x y ≡ Less) xs ys one.0 (all_weaker (λ q. slice_cmp nat_cmp a q.first ≡ Less) (λ y. pair_cmp x y ≡ Less) (λ q below. rw (led.0, below) refl) ys later),
  sorted_both a xs ys led.1 later one.1 two,
)

same : (a : List ℕ) → slice_cmp nat_cmp a a ≡ Equal
same a = tied_itself nat_list_cmp_total a

joined_above : (a b : List ℕ) (bs : List (List ℕ)) → AllByRecursion (λ y. slice_cmp nat_cmp b y ≡ Less) bs → AllByRecursion (λ q. pair_cmp (pair a b) q ≡ Less) (map (pair a) bs)
joined_above a b [] all = tt
joined_above a b (c ∷ bs) all = (rw (same a) all.0, joined_above a b bs all.1)

joined_sorted : (a : List ℕ) (bs : List (List ℕ)) → Ascend bs → IsStrictlySortedBy pair_cmp (map (pair a) bs)
unfolding IsStrictlySortedBy
joined_sorted a [] sorted = tt
joined_sorted a (b ∷ bs) sorted = (joined_above a b bs sorted.0, joined_sorted a bs sorted.1)

joined_led : (a : List ℕ) (bs : List (List ℕ)) → AllByRecursion (λ p. p.first ≡ a) (map (pair a) bs)
joined_led a [] = tt
joined_led a (b ∷ bs) = (refl, joined_led a bs)

single_above : (a : List ℕ) (bs : List (List ℕ)) → AllByRecursion (λ q. pair_cmp (record { first = a; second = None }) q ≡ Less) (map (pair a) bs)
single_above a [] = tt
single_above a (b ∷ bs) = (rw (same a) refl, single_above a bs)

module _ (hosts : List (List ℕ)) (group : Group) (ascend : Ascend hosts) where
  at_sorted : (a : List ℕ) → IsStrictlySortedBy pair_cmp (pairs_at group hosts a)
  unfolding IsStrictlySortedBy
  at_sorted a =
      let bs = filter (joins group a) hosts in
      let rest = joined_sorted a bs (IsStrictlySortedBy-filter (slice_cmp nat_cmp) (joins group a) hosts ascend) in
      elim (alone group a) as (λ b. IsStrictlySortedBy pair_cmp (cond b (record { first = a; second = None } ∷ []) [] ++ map (pair a) bs)) [
        | true ↦ (single_above a bs, rest)
        | false ↦ rest
      ]

  at_led : (a : List ℕ) → AllByRecursion (λ p. p.first ≡ a) (pairs_at group hosts a)
  at_led a =
      let rest = joined_led a (filter (joins group a) hosts) in
      elim (alone group a) as (λ b. AllByRecursion (λ p. p.first ≡ a) (cond b (record { first = a; second = None } ∷ []) [] ++ joined group hosts a)) [
        | true ↦ (refl, rest)
        | false ↦ rest
      ]

  -- pairs that later hosts lead have a later first host
  later : (a : List ℕ) (hs : List (List ℕ)) → AllByRecursion (λ y. slice_cmp nat_cmp a y ≡ Less) hs → AllByRecursion (λ q. slice_cmp nat_cmp a q.first ≡ Less) (flat_map (pairs_at group hosts) hs)
  later a [] all = tt
  later a (h ∷ hs) all =
      all_both (λ q. slice_cmp nat_cmp a q.first ≡ Less) (pairs_at group hosts h) (flat_map (pairs_at group hosts) hs)
      (all_weaker (λ p. p.first ≡ h) (λ q. slice_cmp nat_cmp a q.first ≡ Less) (λ q is. rw is all.0) (pairs_at group hosts h) (at_led h))
      (later a hs all.1)

  all_sorted : (hs : List (List ℕ)) → Ascend hs → IsStrictlySortedBy pair_cmp (flat_map (pairs_at group hosts) hs)
  unfolding IsStrictlySortedBy
  all_sorted [] sorted = tt
  all_sorted (h ∷ hs) sorted =
      sorted_both h (pairs_at group hosts h) (flat_map (pairs_at group hosts) hs) (at_led h) (later h hs sorted.0) (at_sorted h) (all_sorted hs sorted.1)

  pub order : IsStrictlySortedBy pair_cmp (pairs_of hosts group)
  order = all_sorted hosts ascend
