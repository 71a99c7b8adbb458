-- A listing has the first of the orders that are due: they ascend by key, place and kind.
use Rattle.std.specs.List.{AllByRecursion}
use Rattle.std.specs.Ordering.{nat_cmp, ordering_then}
use Rattle.std.specs.Prelude.{◌↔◌, All, Contains, IsSome, slice_index_or}
use Rattle.std.specs.declared.cmp.Ordering.{Ordering}
use Rattle.std.specs.declared.cmp.Ordering.TheVariants.{Equal, Less}
use Rattle.std.proofs.Common.{◌≡◌, ◌+◌, ◌<◌, ◌≤◌, ◌++◌, ◌⊎◌, ℕ, zero, suc, Bool, true, false, cond, length, map, take, drop, List, [], ◌∷◌, Option, Some, None, is_some, inl, inr, refl, sym, ap, ap₂, ◌∙◌, subst, arith, length-drop}
use Rattle.std.proofs.lemmas.Bool.Decides.{nat_tests}
use Rattle.std.proofs.lemmas.List.{length-take, take-append-drop}
use Rattle.std.proofs.lemmas.List.Elements.{All-contains, All-contains_itself, All-from_recursion, All-weaker, Contains-append_cases, Contains-append_left, Contains-append_right}
use Rattle.ps_time.specs.Key.{key_cmp}
use Rattle.ps_time.specs.Numbers.{most_orders}
use Rattle.ps_time.specs.Sorted.{IsAscending}
use Rattle.ps_time.specs.Span.{Range}
use Rattle.ps_time.specs.declared.key.RunKey.{RunKey}
use Rattle.ps_time.proofs.KeyLemmas.{key_cmp_same}
use Rattle.plugin_core.specs.declared.test_spec.TestSpec.{TestSpec}
use Rattle.plugin_core.specs.declared.test_spec.TestSpec.TheVariants.{Idle, Idleex, Idlebgm, Idlemany, Simplestream}
use Rattle.run_states.specs.Content.{kept_proposal}
use Rattle.run_states.specs.Life.{settled_rows}
use Rattle.run_states.specs.Rows.{IsAscendingRows, find_row}
use Rattle.run_states.specs.declared.answer.Other.{Other}
use Rattle.run_states.specs.declared.row.RunRow.{RunRow}
use Rattle.host_model.specs.Book.{Book, moment_at}
use Rattle.host_model.specs.Heard.{other_at}
use Rattle.host_model.specs.Lawful.{Lawful}
use Rattle.host_model.specs.LawfulRow.{HasLead, IsHostRow}
use Rattle.host_model.specs.Orders.{bodies_to, cancel_orders, confirm_orders, free_orders, material_orders, order_if, order_to, orders, orders_from, propose_orders, result_orders, row_orders}
use Rattle.host_model.specs.declared.order.Order.{Order}
use Rattle.host_model.specs.declared.order.OrderBody.{OrderBody}
use Rattle.host_model.specs.declared.order.OrderBody.TheVariants.{Free, Propose, Confirm, Cancel, Material, Result}
use Rattle.host_model.specs.declared.task_row.TaskRow.{TaskRow}
use Rattle.host_model.proofs.Placed.{find_row-key}
use Rattle.host_model.proofs.RowLemmas.{all_of_found, found_of_all}
use Rattle.host_model.proofs.SettledRows.{settled_hosts, settled_up}
use Rattle.lead_orders.specs.Due.{question_of}
use Rattle.lead_orders.specs.Listed.{AreFirst, IsDueOrder, all_orders, kind_of, order_cmp}
use Rattle.lead_orders.proofs.DueLemmas.{IsListed, in_none, listed_due, listed_from, one_behind, order_listed}

-- ---- lists
module _ {X : Type 0} where
  head_or_later : (x : X) (xs : List X) (y : X) → Contains (x ∷ xs) y → (x ≡ y) ⊎ Contains xs y
  head_or_later x xs y c = go c.0 c.1 c.2
    where
      go : (k : ℕ) → k < length (x ∷ xs) → slice_index_or (x ∷ xs) k y ≡ y → (x ≡ y) ⊎ Contains xs y
      go zero lt is = inl is
      go (suc k) lt is = inr (k, omega (arith, lt), is)

  each_of : (P : X → Type 0) (xs : List X) (x : X) → AllByRecursion P xs → Contains xs x → P x
  each_of P xs x all c = All-contains P xs x (All-from_recursion P xs all) c

  all_both : (P : X → Type 0) (xs ys : List X) → AllByRecursion P xs → AllByRecursion P ys → AllByRecursion P (xs ++ ys)
  all_both P [] ys all and = and
  all_both P (x ∷ xs) ys all and = (all.0, all_both P xs ys all.1 and)

  all_take : (P : X → Type 0) (n : ℕ) (xs : List X) → AllByRecursion P xs → AllByRecursion P (take n xs)
  all_take P zero xs all = tt
  all_take P (suc n) [] all = tt
  all_take P (suc n) (x ∷ xs) all = (all.0, all_take P n xs all.1)

  all_so : (P Q : X → Type 0) (xs : List X) → ((x : X) → P x → Q x) → AllByRecursion P xs → AllByRecursion Q xs
  all_so P Q [] so all = tt
  all_so P Q (x ∷ xs) so all = (so x all.0, all_so P Q xs so all.1)

  in_taken : (n : ℕ) (xs : List X) (x : X) → Contains (take n xs) x → Contains xs x
  in_taken n xs x c = subst (λ l. Contains l x) (take-append-drop n xs) (Contains-append_left (take n xs) (drop n xs) x c)

  in_dropped : (n : ℕ) (xs : List X) (x : X) → Contains (drop n xs) x → Contains xs x
  in_dropped n xs x c = subst (λ l. Contains l x) (take-append-drop n xs) (Contains-append_right (take n xs) (drop n xs) x c)

-- ---- lists that ascend
module _ {K X : Type 0} (cmp : K → K → Ordering) (key : X → K) where
  -- each of these is below each of those
  abbrev AreBelow : List X → List X → Type 0
  AreBelow xs ys = AllByRecursion (λ x. AllByRecursion (λ y. cmp (key x) (key y) ≡ Less) ys) xs

  up_both : (xs ys : List X) → IsAscending cmp key xs → IsAscending cmp key ys → AreBelow xs ys → IsAscending cmp key (xs ++ ys)
  up_both [] ys up vp below = vp
  up_both (x ∷ xs) ys up vp below = (all_both (λ y. cmp (key x) (key y) ≡ Less) xs ys up.0 below.0, up_both xs ys up.1 vp below.1)

  up_taken : (n : ℕ) (xs : List X) → IsAscending cmp key xs → IsAscending cmp key (take n xs)
  up_taken zero xs up = tt
  up_taken (suc n) [] up = tt
  up_taken (suc n) (x ∷ xs) up = (all_take (λ y. cmp (key x) (key y) ≡ Less) n xs up.0, up_taken n xs up.1)

  behind : (n : ℕ) (xs : List X) → IsAscending cmp key xs → (y x : X) → Contains (take n xs) y → Contains (drop n xs) x → cmp (key y) (key x) ≡ Less
  behind zero xs up y x c d = absurd (in_none y c)
  behind (suc n) [] up y x c d = absurd (in_none y c)
  behind (suc n) (z ∷ zs) up y x c d = go (behind n zs up.1 y x) (head_or_later z (take n zs) y c)
    where
      go : (Contains (take n zs) y → Contains (drop n zs) x → cmp (key y) (key x) ≡ Less) → (z ≡ y) ⊎ Contains (take n zs) y → cmp (key y) (key x) ≡ Less
      go ih (inl is) = subst (λ w. cmp (key w) (key x) ≡ Less) is (each_of (λ w. cmp (key z) (key w) ≡ Less) zs x up.0 (in_dropped n zs x d))
      go ih (inr later) = ih later d

-- the first of an ascending list of all for which P holds
module _ {X : Type 0} (cmp : X → X → Ordering) (P : X → Type 0) (n : ℕ) (xs : List X) (up : IsAscending cmp (λ x. x) xs) where
  first_of : ((x : X) → Contains xs x → P x) → ((x : X) → P x → Contains xs x) → AreFirst cmp n P (take n xs)
  first_of hold all = record {
    few = omega (arith, length-take n xs);
    ascending = up_taken cmp (λ x. x) n xs up;
    hold = λ x c. hold x (in_taken n xs x c);
    rest = λ x p. go x (Contains-append_cases (take n xs) (drop n xs) x (subst (λ l. Contains l x) (sym (take-append-drop n xs)) (all x p)));
  }
    where
      go : (x : X) → Contains (take n xs) x ⊎ Contains (drop n xs) x → Contains (take n xs) x ⊎ ((length (take n xs) ≡ n) × ((y : X) → Contains (take n xs) y → cmp y x ≡ Less))
      go x (inl c) = inl c
      go x (inr d) =
          let behind_it : d.0 < length (drop n xs) = d.1 in
          inr (omega (arith, length-take n xs, length-drop n xs, behind_it), λ y c. behind cmp (λ x. x) n xs up y x c d)

-- ---- one order and another
less_is : (a b : ℕ) → a < b → nat_cmp a b ≡ Less
less_is a b lt = grind (arith, nat_tests)

same_is : (a : ℕ) → nat_cmp a a ≡ Equal
same_is a = grind (arith, nat_tests)

by_key : (x y : Order) → key_cmp x.key y.key ≡ Less → order_cmp x y ≡ Less
by_key x y less = ap (λ o. ordering_then o (ordering_then (nat_cmp x.place y.place) (nat_cmp (kind_of x.body) (kind_of y.body)))) less

by_place : (x y : Order) → key_cmp x.key y.key ≡ Equal → x.place < y.place → order_cmp x y ≡ Less
by_place x y same less = ap₂ (λ o p. ordering_then o (ordering_then p (nat_cmp (kind_of x.body) (kind_of y.body)))) same (less_is x.place y.place less)

by_kind : (r : RunRow) (place : ℕ) (a b : OrderBody) → nat_cmp (kind_of a) (kind_of b) ≡ Less → order_cmp (order_to r place a) (order_to r place b) ≡ Less
by_kind r place a b less = ap₂ (λ o p. ordering_then o (ordering_then p (nat_cmp (kind_of a) (kind_of b)))) (key_cmp_same r.key) (same_is place) ∙ less

-- ---- what is said to one participant, kind after kind
-- of kinds from one on and before another, in their order
record AreOfKinds (low high : ℕ) (xs : List OrderBody) : Type 0 where
  up : IsAscending nat_cmp kind_of xs
  within : AllByRecursion (λ b. (low ≤ kind_of b) × (kind_of b < high)) xs

no_kind : (k : ℕ) → AreOfKinds k (k + 1) []
no_kind k = record { up = tt; within = tt }

one_kind : (k : ℕ) (b : Bool) (body : OrderBody) → kind_of body ≡ k → AreOfKinds k (k + 1) (order_if b body)
one_kind k true body is = record { up = (tt, tt); within = ((omega (arith, is), omega (arith, is)), tt) }
one_kind k false body is = no_kind k

kinds_apart : (n : ℕ) (xs ys : List OrderBody) → AllByRecursion (λ b. kind_of b < n) xs → AllByRecursion (λ b. n ≤ kind_of b) ys → AreBelow nat_cmp kind_of xs ys
kinds_apart n [] ys below above = tt
kinds_apart n (x ∷ xs) ys below above =
    (all_so (λ b. n ≤ kind_of b) (λ y. nat_cmp (kind_of x) (kind_of y) ≡ Less) ys (λ y is. less_is (kind_of x) (kind_of y) (omega (arith, below.0, is))) above, kinds_apart n xs ys below.1 above)

more_kinds : (a b c : ℕ) (xs ys : List OrderBody) → a ≤ b → b ≤ c → AreOfKinds a b xs → AreOfKinds b c ys → AreOfKinds a c (xs ++ ys)
more_kinds a b c xs ys ab bc x y = record {
  up = up_both nat_cmp kind_of xs ys x.up y.up (kinds_apart b xs ys
      (all_so (λ z. (a ≤ kind_of z) × (kind_of z < b)) (λ z. kind_of z < b) xs (λ z is. is.1) x.within)
      (all_so (λ z. (b ≤ kind_of z) × (kind_of z < c)) (λ z. b ≤ kind_of z) ys (λ z is. is.0) y.within));
  within = all_both (λ z. (a ≤ kind_of z) × (kind_of z < c)) xs ys
      (all_so (λ z. (a ≤ kind_of z) × (kind_of z < b)) (λ z. (a ≤ kind_of z) × (kind_of z < c)) xs (λ z is. (is.0, omega (arith, is.1, bc))) x.within)
      (all_so (λ z. (b ≤ kind_of z) × (kind_of z < c)) (λ z. (a ≤ kind_of z) × (kind_of z < c)) ys (λ z is. (omega (arith, is.0, ab), is.1)) y.within);
}

module _ (m : ℕ) (r : RunRow) (o : Other) where
  free_kind : (w : Option Range) → AreOfKinds 0 1 (free_orders r o w)
  free_kind None = no_kind 0
  free_kind (Some w) = one_kind 0 _ (Free (question_of r w)) refl

  material_kind : (test : TestSpec) (started : Option ℕ) → AreOfKinds 4 5 (material_orders m r o test started)
  material_kind (Simplestream dest material dawdle timeout) (Some started) = one_kind 4 _ (Material material) refl
  material_kind (Simplestream dest material dawdle timeout) None = no_kind 4
  material_kind (Idle sleep) started = no_kind 4
  material_kind (Idleex sleep) started = no_kind 4
  material_kind (Idlebgm sleep interval) started = no_kind 4
  material_kind (Idlemany sleep hosts) started = no_kind 4

  bodies_kinds : AreOfKinds 0 6 (bodies_to m r o)
  bodies_kinds =
      let two = more_kinds 0 1 2 (free_orders r o r.question) (propose_orders r o) (omega arith) (omega arith) (free_kind r.question) (one_kind 1 _ (Propose (kept_proposal r)) refl) in
      let three = more_kinds 0 2 3 _ (confirm_orders m r o) (omega arith) (omega arith) two (one_kind 2 _ Confirm refl) in
      let four = more_kinds 0 3 4 _ (cancel_orders m r o) (omega arith) (omega arith) three (one_kind 3 _ Cancel refl) in
      let five = more_kinds 0 4 5 _ (material_orders m r o r.test r.started) (omega arith) (omega arith) four (material_kind r.test r.started) in
      more_kinds 0 5 6 _ (result_orders m r o) (omega arith) (omega arith) five (one_kind 5 _ Result refl)

-- ---- the orders of one row
module _ (m : ℕ) (r : RunRow) where
  kinds_below : (place : ℕ) (b : OrderBody) (bs : List OrderBody) → AllByRecursion (λ c. nat_cmp (kind_of b) (kind_of c) ≡ Less) bs → AllByRecursion (λ y. order_cmp (order_to r place b) y ≡ Less) (map (order_to r place) bs)
  kinds_below place b [] all = tt
  kinds_below place b (c ∷ cs) all = (by_kind r place b c all.0, kinds_below place b cs all.1)

  up_at : (place : ℕ) (bs : List OrderBody) → IsAscending nat_cmp kind_of bs → IsAscending order_cmp (λ x. x) (map (order_to r place) bs)
  up_at place [] up = tt
  up_at place (b ∷ bs) up = (kinds_below place b bs up.0, up_at place bs up.1)

  -- it is of this row, for a participant from a place on
  abbrev IsFrom : ℕ → Order → Type 0
  IsFrom p x = (x.key ≡ r.key) × (p ≤ x.place)

  here_from : (p q : ℕ) → q ≤ p → (bs : List OrderBody) → AllByRecursion (IsFrom q) (map (order_to r p) bs)
  here_from p q le [] = tt
  here_from p q le (b ∷ bs) = ((refl, le), here_from p q le bs)

  all_from : (p : ℕ) (os : List Other) → AllByRecursion (IsFrom p) (orders_from m r p os)
  all_from p [] = tt
  all_from p (o ∷ os) =
      all_both (IsFrom p) (map (order_to r p) (bodies_to m r o)) (orders_from m r (p + 1) os) (here_from p p (omega arith) (bodies_to m r o))
      (all_so (IsFrom (p + 1)) (IsFrom p) (orders_from m r (p + 1) os) (λ x is. (is.0, omega (arith, is.1))) (all_from (p + 1) os))

  place_below : (p : ℕ) (bs : List OrderBody) (ys : List Order) → AllByRecursion (IsFrom (p + 1)) ys → AreBelow order_cmp (λ x. x) (map (order_to r p) bs) ys
  place_below p [] ys from = tt
  place_below p (b ∷ bs) ys from = (
    all_so (IsFrom (p + 1)) (λ y. order_cmp (order_to r p b) y ≡ Less) ys
        (λ y is. by_place (order_to r p b) y (subst (λ k. key_cmp r.key k ≡ Equal) (sym is.0) (key_cmp_same r.key)) (omega (arith, is.1))) from,
    place_below p bs ys from,
  )

  from_up : (p : ℕ) (os : List Other) → IsAscending order_cmp (λ x. x) (orders_from m r p os)
  from_up p [] = tt
  from_up p (o ∷ os) =
      up_both order_cmp (λ x. x) (map (order_to r p) (bodies_to m r o)) (orders_from m r (p + 1) os) (up_at p (bodies_to m r o) (bodies_kinds m r o).up) (from_up (p + 1) os)
      (place_below p (bodies_to m r o) (orders_from m r (p + 1) os) (all_from (p + 1) os))

  row_up : IsAscending order_cmp (λ x. x) (row_orders m r)
  row_up = go (is_some r.asked)
    where
      go : (b : Bool) → IsAscending order_cmp (λ x. x) (cond b (orders_from m r 1 r.others) [])
      go true = from_up 1 r.others
      go false = tt

  row_from : AllByRecursion (IsFrom 1) (row_orders m r)
  row_from = go (is_some r.asked)
    where
      go : (b : Bool) → AllByRecursion (IsFrom 1) (cond b (orders_from m r 1 r.others) [])
      go true = all_from 1 r.others
      go false = tt

-- ---- the orders of all rows
module _ (m : ℕ) where
  -- none has a key below the rows'
  rows_above : (k : RunKey) (rows : List RunRow) → AllByRecursion (λ r. key_cmp k r.key ≡ Less) rows → AllByRecursion (λ x. key_cmp k x.key ≡ Less) (all_orders m rows)
  rows_above k [] all = tt
  rows_above k (r ∷ rs) all =
      all_both (λ x. key_cmp k x.key ≡ Less) (row_orders m r) (all_orders m rs)
      (all_so (IsFrom m r 1) (λ x. key_cmp k x.key ≡ Less) (row_orders m r) (λ x is. subst (λ j. key_cmp k j ≡ Less) (sym is.0) all.0) (row_from m r)) (rows_above k rs all.1)

  key_below : (r : RunRow) (xs ys : List Order) → AllByRecursion (IsFrom m r 1) xs → AllByRecursion (λ y. key_cmp r.key y.key ≡ Less) ys → AreBelow order_cmp (λ x. x) xs ys
  key_below r [] ys from above = tt
  key_below r (x ∷ xs) ys from above =
      (all_so (λ y. key_cmp r.key y.key ≡ Less) (λ y. order_cmp x y ≡ Less) ys (λ y is. by_key x y (subst (λ k. key_cmp k y.key ≡ Less) (sym from.0.0) is)) above, key_below r xs ys from.1 above)

  rows_up : (rows : List RunRow) → IsAscendingRows rows → IsAscending order_cmp (λ x. x) (all_orders m rows)
  rows_up [] up = tt
  rows_up (r ∷ rs) up =
      up_both order_cmp (λ x. x) (row_orders m r) (all_orders m rs) (row_up m r) (rows_up rs up.1)
      (key_below r (row_orders m r) (all_orders m rs) (row_from m r) (rows_above r.key rs up.0))

  -- which row has it
  of_row : (rows : List RunRow) (x : Order) → Contains (all_orders m rows) x → (r : RunRow) × Contains rows r × Contains (row_orders m r) x
  of_row [] x c = absurd (in_none x c)
  of_row (r ∷ rs) x c = go (of_row rs x) (Contains-append_cases (row_orders m r) (all_orders m rs) x c)
    where
      go : (Contains (all_orders m rs) x → (s : RunRow) × Contains rs s × Contains (row_orders m s) x) → Contains (row_orders m r) x ⊎ Contains (all_orders m rs) x →
          (s : RunRow) × Contains (r ∷ rs) s × Contains (row_orders m s) x
      go ih (inl here) = (r, (0, omega arith, refl), here)
      go ih (inr later) = let rest = ih later in (rest.0, one_behind r rs rest.0 rest.1, rest.2)

  in_rows : (rows : List RunRow) (r : RunRow) (x : Order) → Contains rows r → Contains (row_orders m r) x → Contains (all_orders m rows) x
  in_rows [] r x there c = absurd (in_none r there)
  in_rows (s ∷ rs) r x there c = go (in_rows rs r x) (head_or_later s rs r there)
    where
      go : (Contains rs r → Contains (row_orders m r) x → Contains (all_orders m rs) x) → (s ≡ r) ⊎ Contains rs r → Contains (all_orders m (s ∷ rs)) x
      go ih (inl is) = Contains-append_left (row_orders m s) (all_orders m rs) x (subst (λ y. Contains (row_orders m y) x) (sym is) c)
      go ih (inr later) = Contains-append_right (row_orders m s) (all_orders m rs) x (ih later c)

-- ---- what is due is listed
module _ (self m : ℕ) (rows : List RunRow) (up : IsAscendingRows rows) (led : All (λ r. IsSome r.asked → r.key.lead ≡ self) rows) where
  due_of : (x : Order) → Contains (all_orders m rows) x → IsDueOrder self m rows x
  due_of x c = let of = of_row m rows x c in go of.0 of.1 (is_some of.0.asked) refl of.2
    where
      go : (r : RunRow) → Contains rows r → (b : Bool) → is_some r.asked ≡ b → Contains (cond b (orders_from m r 1 r.others) []) x → IsDueOrder self m rows x
      go r there false asked c = absurd (in_none x c)
      go r there true asked c =
          let listed : IsListed m r 1 r.others x = listed_from m r 1 r.others x c in
          let place : suc listed.at ≡ 1 + listed.at = omega arith in
          subst (IsDueOrder self m rows) listed.is (record {
            row = r;
            other = listed.other;
            found = All-contains (λ s. find_row rows s.key ≡ Some s) rows r (all_of_found (λ s. find_row rows s.key ≡ Some s) rows up (λ s e. e)) there;
            own = All-contains (λ s. IsSome s.asked → s.key.lead ≡ self) rows r led there asked;
            asked = asked;
            known = subst (λ n. other_at r n ≡ Some listed.other) place listed.known;
            named = refl;
            due = listed_due m r listed.other listed.body listed.said;
          })

  listed_of : (x : Order) → IsDueOrder self m rows x → Contains (all_orders m rows) x
  listed_of x d =
      let there : Contains rows d.row = found_of_all (λ r. Contains rows r) x.key d.row rows (All-contains_itself rows) d.found in
      let is : order_to d.row x.place x.body ≡ x = ap₂ (λ k t. record { key = k; place = x.place; to = t; body = x.body }) (find_row-key rows x.key d.row d.found) d.named in
      in_rows m rows d.row x there (subst (λ y. Contains (row_orders m d.row) y) is ((order_listed m d.row x.place d.other x.body d.asked d.known).1 d.due))

  first_due : AreFirst order_cmp most_orders (IsDueOrder self m rows) (take most_orders (all_orders m rows))
  first_due = first_of order_cmp (IsDueOrder self m rows) most_orders (all_orders m rows) (rows_up m rows up) due_of listed_of

-- ---- the orders of a book
led_by : (self : ℕ) (tasks : List TaskRow) (r : RunRow) (a : Option ℕ) → HasLead self tasks r a → IsSome a → r.key.lead ≡ self
led_by self tasks r None lead asked = cc
led_by self tasks r (Some a) lead asked = lead.0

module _ (self clock : ℕ) (b : Book) (lawful : Lawful self b) where
  abbrev moment : ℕ
  moment = moment_at b clock

  abbrev rows_then : List RunRow
  rows_then = settled_rows moment b.rows

  ascend : IsAscendingRows rows_then
  ascend = settled_up moment b.rows lawful.ascending

  are_led : All (λ r. IsSome r.asked → r.key.lead ≡ self) rows_then
  are_led =
      All-weaker (IsHostRow self b.tasks moment) (λ r. IsSome r.asked → r.key.lead ≡ self) (λ r row asked. led_by self b.tasks r r.asked row.lead asked) rows_then
      (settled_hosts self b.tasks b.moment moment (omega arith) b.rows lawful.rows)

  pub listed_due_orders : (x : Order) → Contains (all_orders moment rows_then) x ↔ IsDueOrder self moment rows_then x
  listed_due_orders x = (due_of self moment rows_then ascend are_led x, listed_of self moment rows_then ascend are_led x)

  pub first_orders : AreFirst order_cmp most_orders (IsDueOrder self moment rows_then) (orders b clock)
  first_orders = first_due self moment rows_then ascend are_led
