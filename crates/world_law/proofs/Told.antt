-- What each order of a lawful book says, its rows show.
use Rattle.std.specs.List.{AllByRecursion}
use Rattle.std.specs.Prelude.{flat_map}
use Rattle.std.proofs.Common.{◌≡◌, ◌+◌, ◌<◌, ℕ, zero, suc, Bool, true, false, cond, IsSome, IsTrue, List, [], ◌∷◌, ◌++◌, length, map, Option, Some, None, is_some, slice_get, take, unwrap_or, refl, sym, ap, subst, arith}
use Rattle.std.proofs.lemmas.List.Elements.{recursion_from_All}
use Rattle.ps_time.specs.Numbers.{most_orders}
use Rattle.ps_time.specs.Span.{Range}
use Rattle.ps_time.proofs.PictureLemmas.{and_true}
use Rattle.plugin_core.specs.declared.test_spec.TestSpec.{TestSpec}
use Rattle.plugin_core.specs.declared.test_spec.TestSpec.TheVariants.{Simplestream}
use Rattle.run_states.specs.Content.{kept_proposal}
use Rattle.run_states.specs.LawfulRow.{HasOrigin}
use Rattle.run_states.specs.Life.{is_active, is_booked}
use Rattle.run_states.specs.Rows.{find_row}
use Rattle.run_states.specs.declared.answer.Other.{Other}
use Rattle.run_states.specs.declared.row.RunRow.{RunRow}
use Rattle.host_model.specs.Book.{Book}
use Rattle.host_model.specs.Lawful.{Lawful}
use Rattle.host_model.specs.LawfulRow.{IsHostRow}
use Rattle.host_model.specs.Orders.{bodies_to, cancel_orders, confirm_orders, free_orders, material_orders, order_if, order_to, orders_from, propose_orders, result_orders, row_orders}
use Rattle.host_model.specs.declared.order.Order.{Order}
use Rattle.host_model.specs.declared.order.OrderBody.{OrderBody}
use Rattle.host_model.specs.declared.order.OrderBody.TheVariants.{Free, Propose, Confirm, Cancel, Material, Result}
use Rattle.host_model.proofs.RowFacts.{lawful_at}
use Rattle.host_model.proofs.RowLemmas.{all_of_found}
use Rattle.world_law.specs.Laws.{Asks, BoundOrder, Shows}
use Rattle.world_law.proofs.Shown.{holds_of}

-- ---- lists
pub all_append : {A : Type 0} (P : A → Type 0) (xs ys : List A) → AllByRecursion P xs → AllByRecursion P ys → AllByRecursion P (xs ++ ys)
all_append P [] ys f g = g
all_append P (x ∷ xs) ys f g = (f.0, all_append P xs ys f.1 g)

all_map : {A B : Type 0} (P : B → Type 0) (f : A → B) (xs : List A) → AllByRecursion (λ x. P (f x)) xs → AllByRecursion P (map f xs)
all_map P f [] all = tt
all_map P f (x ∷ xs) all = (all.0, all_map P f xs all.1)

all_take : {A : Type 0} (P : A → Type 0) (n : ℕ) (xs : List A) → AllByRecursion P xs → AllByRecursion P (take n xs)
all_take P zero xs all = tt
all_take P (suc n) [] all = tt
all_take P (suc n) (x ∷ xs) all = (all.0, all_take P n xs all.1)

all_flat : {A B : Type 0} (P : B → Type 0) (f : A → List B) (xs : List A) → AllByRecursion (λ x. AllByRecursion P (f x)) xs → AllByRecursion P (flat_map f xs)
all_flat P f [] all = tt
all_flat P f (x ∷ xs) all = all_append P (f x) (flat_map f xs) all.0 (all_flat P f xs all.1)

all_get : {A : Type 0} (P : A → Type 0) (xs : List A) (i : ℕ) (x : A) → AllByRecursion P xs → slice_get xs i ≡ Some x → P x
all_get P [] i x all e = cc
all_get P (y ∷ ys) zero x all e = let same : y ≡ x = cc in subst P same all.0
all_get P (y ∷ ys) (suc i) x all e = all_get P ys i x all.1 e

-- ---- what an order says of its row
abbrev Says : RunRow → OrderBody → Type 0
Says r (Free q) = (q.key ≡ r.key) × Asks q r
Says r (Propose p) = (p ≡ kept_proposal r) × IsTrue (is_booked r)
Says r Confirm = IsSome r.confirmed
Says r (Material text) = IsSome r.started
Says r body = Unit {0}

said_if : (r : RunRow) (b : Bool) (body : OrderBody) → (b ≡ true → Says r body) → AllByRecursion (Says r) (order_if b body)
said_if r true body says = (says refl, tt)
said_if r false body says = tt

material_says : (m : ℕ) (r : RunRow) (o : Other) (test : TestSpec) (started : Option ℕ) → AllByRecursion (Says r) (material_orders m r o test started)
material_says m r o (Simplestream dest material dawdle timeout) (Some n) = said_if r _ (Material material) (λ e. (and_true (is_some r.started) _ (and_true (is_active r) _ e).0).0)
material_says m r o (Simplestream dest material dawdle timeout) None = tt
material_says m r o test started = tt

free_says : (r : RunRow) (o : Other) (w : Option Range) → r.question ≡ w → AllByRecursion (Says r) (free_orders r o w)
free_says r o None f = tt
free_says r o (Some w) f = said_if r _ _ (λ e. (refl, record { test = refl; window = f }))

bodies_say : (m : ℕ) (r : RunRow) (o : Other) → AllByRecursion (Says r) (bodies_to m r o)
bodies_say m r o =
    all_append (Says r) (free_orders r o r.question ++ propose_orders r o ++ confirm_orders m r o ++ cancel_orders m r o ++ material_orders m r o r.test r.started) (result_orders m r o)
    (all_append (Says r) (free_orders r o r.question ++ propose_orders r o ++ confirm_orders m r o ++ cancel_orders m r o) (material_orders m r o r.test r.started)
    (all_append (Says r) (free_orders r o r.question ++ propose_orders r o ++ confirm_orders m r o) (cancel_orders m r o)
    (all_append (Says r) (free_orders r o r.question ++ propose_orders r o) (confirm_orders m r o)
    (all_append (Says r) (free_orders r o r.question) (propose_orders r o) (free_says r o r.question refl) (said_if r _ _ (λ e. (refl, (and_true (is_booked r) _ e).0))))
    (said_if r _ Confirm (λ e. (and_true (is_some r.confirmed) _ e).0)))
    (said_if r _ Cancel (λ e. tt)))
    (material_says m r o r.test r.started))
    (said_if r _ Result (λ e. tt))

-- ---- an order
-- the row is shown by these rows
pub record Ordered (rows : List RunRow) (o : Order) : Type 0 where
  pub bound : BoundOrder (find_row rows) o.key o.body
  pub addressed : Shows (find_row rows) o.key (λ r. slice_get r.participants o.place ≡ Some o.to)
  pub keyed : (p : _) → o.body ≡ Propose p → p.key ≡ o.key

module _ (self : ℕ) (b : Book) (lawful : Lawful self b) (r : RunRow) (at : find_row b.rows r.key ≡ Some r) (row : IsHostRow self b.tasks b.moment r) (asked : is_some r.asked ≡ true) where
  bound : (body : OrderBody) → Says r body → BoundOrder (find_row b.rows) r.key body
  bound (Free q) says = (r, subst (λ k. find_row b.rows k ≡ Some r) (sym says.0) at, says.1)
  bound (Propose p) says =
      let key : p.key ≡ r.key = ap (λ q. q.key) says.0 in
      (r, subst (λ k. find_row b.rows k ≡ Some r) (sym key) at, holds_of b.moment r p row.row (and_true (is_some r.accepted) _ says.1).0 (sym says.0))
  bound Confirm says = (r, at, says)
  bound Cancel says = (r, at, tt)
  bound (Material text) says = (r, at, says)
  bound Result says = (r, at, tt)

  key_of : (body : OrderBody) → Says r body → (p : _) → body ≡ Propose p → p.key ≡ r.key
  key_of (Propose q) says p e = let same : q ≡ p = cc in subst (λ x. x.key ≡ r.key) same (ap (λ x. x.key) says.0)
  key_of (Free q) says p e = cc
  key_of Confirm says p e = cc
  key_of Cancel says p e = cc
  key_of (Material text) says p e = cc
  key_of Result says p e = cc

  count : length r.others + 1 ≡ length r.participants
  count = go r.asked asked row.row.origin
    where
      go : (o : Option ℕ) → is_some o ≡ true → HasOrigin r o → length r.others + 1 ≡ length r.participants
      go None e h = cc
      go (Some n) e h = h.1

  name_there : (xs : List (List ℕ)) (i : ℕ) → i < length xs → slice_get xs i ≡ Some (unwrap_or (slice_get xs i) [])
  name_there [] i low = absurd (omega (arith, low))
  name_there (x ∷ xs) zero low = refl
  name_there (x ∷ xs) (suc i) low = name_there xs i (omega (arith, low))

  one : (place : ℕ) → place < length r.participants → (body : OrderBody) → Says r body → Ordered b.rows (order_to r place body)
  one place low body says = record { bound = bound body says; addressed = (r, at, name_there r.participants place low); keyed = key_of body says }

  each : (place : ℕ) → place < length r.participants → (bodies : List OrderBody) → AllByRecursion (Says r) bodies → AllByRecursion (λ body. Ordered b.rows (order_to r place body)) bodies
  each place low [] all = tt
  each place low (body ∷ bodies) all = (one place low body all.0, each place low bodies all.1)

  from : (m place : ℕ) (os : List Other) → place + length os ≡ length r.participants → AllByRecursion (Ordered b.rows) (orders_from m r place os)
  from m place [] e = tt
  from m place (o ∷ os) e =
      all_append (Ordered b.rows) (map (order_to r place) (bodies_to m r o)) (orders_from m r (place + 1) os)
      (all_map (Ordered b.rows) (order_to r place) (bodies_to m r o) (each place (omega (arith, e)) (bodies_to m r o) (bodies_say m r o))) (from m (place + 1) os (omega (arith, e)))

  all_from : (m : ℕ) → AllByRecursion (Ordered b.rows) (orders_from m r 1 r.others)
  all_from m = from m 1 r.others (omega (arith, count))

-- so is each order of the row
abbrev AllTold : ℕ → Book → RunRow → Type 0
AllTold m b r = AllByRecursion (Ordered b.rows) (row_orders m r)

-- each order of a lawful book, settled at m
pub orders_told : (self m : ℕ) (b : Book) → Lawful self b → (place : ℕ) (o : Order) → slice_get (take most_orders (flat_map (row_orders m) b.rows)) place ≡ Some o → Ordered b.rows o
orders_told self m b lawful place o e =
    all_get (Ordered b.rows) (take most_orders (flat_map (row_orders m) b.rows)) place o
    (all_take (Ordered b.rows) most_orders (flat_map (row_orders m) b.rows) (all_flat (Ordered b.rows) (row_orders m) b.rows (recursion_from_All (AllTold m b) b.rows (all_of_found (AllTold m b) b.rows lawful.ascending row))))
    e
  where
    row : (r : RunRow) → find_row b.rows r.key ≡ Some r → AllTold m b r
    row r at = go (is_some r.asked) refl
      where
        go : (t : Bool) → is_some r.asked ≡ t → AllByRecursion (Ordered b.rows) (cond t (orders_from m r 1 r.others) [])
        go false e = tt
        go true e = all_from self b lawful r at (lawful_at self b lawful r.key r at) e m
