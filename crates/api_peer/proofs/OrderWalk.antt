-- What holds of every order of a book, where it holds of what its rows may have ordered.
use Rattle.std.specs.List.{AllByRecursion, flat_map}
use Rattle.std.specs.Prelude.{All, IsSome, is_some, nat_le}
use Rattle.std.proofs.Common.{◌+◌, ◌&&◌, ◌∷◌, ◌≡◌, Bool, List, None, Option, Some, [], cond, false, map, not, refl, true, ℕ}
use Rattle.std.proofs.lemmas.List.Elements.{All-append, All-cons, All-map, All-nil, All-take, recursion_from_All}
use Rattle.ps_time.specs.Numbers.{most_orders}
use Rattle.ps_time.specs.Span.{Range}
use Rattle.plugin_core.specs.declared.test_spec.TestSpec.{TestSpec}
use Rattle.plugin_core.specs.declared.test_spec.TestSpec.TheVariants.{Idle, Idleex, Idlebgm, Idlemany, Simplestream}
use Rattle.run_states.specs.Content.{kept_proposal}
use Rattle.run_states.specs.Life.{is_active, is_booked, settled_rows}
use Rattle.run_states.specs.declared.answer.Other.{Other}
use Rattle.run_states.specs.declared.row.RunRow.{RunRow}
use Rattle.host_model.specs.Book.{Book, moment_at}
use Rattle.host_model.specs.Orders.{bodies_to, cancel_orders, confirm_orders, free_orders, is_before_end, is_past_end, material_orders, order_if, order_to, orders, orders_from, propose_orders, result_orders, row_orders}
use Rattle.host_model.specs.declared.order.Order.{Order}
use Rattle.host_model.specs.declared.order.OrderBody.{OrderBody}
use Rattle.host_model.specs.declared.order.OrderBody.TheVariants.{Free, Propose, Confirm, Cancel, Material, Result}

-- this holds of whatever may be ordered of a row
pub record OfOrders (P : OrderBody → Type 0) (r : RunRow) : Type 0 where
  pub free : (w : Range) → r.question ≡ Some w → P (Free (record { key = r.key; test = r.test; priority = r.priority; window = w }))
  pub propose : P (Propose (kept_proposal r))
  pub confirm : P Confirm
  pub cancel : P Cancel
  pub material : (dest text : List ℕ) (dawdle timeout : ℕ) → r.test ≡ Simplestream dest text dawdle timeout → P (Material text)
  pub result : P Result

module _ (P : OrderBody → Type 0) where
  all_if : (t : Bool) (body : OrderBody) → P body → All P (order_if t body)
  all_if true body is = All-cons P body [] is (All-nil P)
  all_if false body is = All-nil P

  -- ---- one row, to one participant
  module _ (r : RunRow) (of : OfOrders P r) (now : ℕ) (o : Other) where
    free_all : (w : Option Range) → r.question ≡ w → All P (free_orders r o w)
    free_all None is = All-nil P
    free_all (Some w) is = all_if (not (is_some r.closed) && not (is_some o.free)) (Free (record { key = r.key; test = r.test; priority = r.priority; window = w })) (of.free w is)

    material_all : (test : TestSpec) → r.test ≡ test → (started : Option ℕ) → All P (material_orders now r o test started)
    material_all (Idle sleep) is started = All-nil P
    material_all (Idleex sleep) is started = All-nil P
    material_all (Idlebgm sleep interval) is started = All-nil P
    material_all (Idlemany sleep hosts) is started = All-nil P
    material_all (Simplestream dest material dawdle timeout) is None = All-nil P
    material_all (Simplestream dest material dawdle timeout) is (Some started) =
        all_if (is_active r && (not o.material_told && nat_le (started + dawdle) now)) (Material material) (of.material dest material dawdle timeout is)

    bodies_all : All P (bodies_to now r o)
    bodies_all =
        All-append P _ (result_orders now r o)
        (All-append P _ (material_orders now r o r.test r.started)
        (All-append P _ (cancel_orders now r o)
        (All-append P _ (confirm_orders now r o)
        (All-append P (free_orders r o r.question) (propose_orders r o) (free_all r.question refl)
        (all_if (is_booked r && (not (is_some r.confirmed) && not o.accepted)) (Propose (kept_proposal r)) of.propose))
        (all_if (is_some r.confirmed && (not (is_some r.closed) && (not o.confirm_told && is_before_end now r.interval))) Confirm of.confirm))
        (all_if (is_some r.closed && (o.accepted && (not o.cancel_told && is_before_end now r.interval))) Cancel of.cancel))
        (material_all r.test refl r.started))
        (all_if (is_some r.ended && (not (is_some r.merged) && (not (is_some o.heard) && is_past_end now r.interval))) Result of.result)

  -- ---- one row, to all
  abbrev OfOrder : Order → Type 0
  OfOrder x = P x.body

  others_all : (r : RunRow) → OfOrders P r → (now place : ℕ) (os : List Other) → All OfOrder (orders_from now r place os)
  others_all r of now place [] = All-nil OfOrder
  others_all r of now place (o ∷ os) =
      All-append OfOrder (map (order_to r place) (bodies_to now r o)) (orders_from now r (place + 1) os)
      (All-map OfOrder (order_to r place) (bodies_to now r o) (bodies_all r of now o)) (others_all r of now (place + 1) os)

  -- only of what was asked about something is ordered
  abbrev pub OfAsked : RunRow → Type 0
  OfAsked r = IsSome r.asked → OfOrders P r

  row_all : (r : RunRow) (now : ℕ) → OfAsked r → All OfOrder (row_orders now r)
  row_all r now of = go (is_some r.asked) refl
    where
      go : (t : Bool) → is_some r.asked ≡ t → All OfOrder (cond t (orders_from now r 1 r.others) [])
      go true asked = others_all r (of asked) now 1 r.others
      go false asked = All-nil OfOrder

  -- ---- all rows
  rows_all : (now : ℕ) (rows : List RunRow) → AllByRecursion OfAsked rows → All OfOrder (flat_map (row_orders now) rows)
  rows_all now [] all = All-nil OfOrder
  rows_all now (r ∷ rs) all = All-append OfOrder (row_orders now r) (flat_map (row_orders now) rs) (row_all r now all.0) (rows_all now rs all.1)

  pub orders_all : (b : Book) (clock : ℕ) → All OfAsked (settled_rows (moment_at b clock) b.rows) → All (λ x. P x.body) (orders b clock)
  orders_all b clock all =
      let now : ℕ = moment_at b clock in
      All-take OfOrder most_orders (flat_map (row_orders now) (settled_rows now b.rows))
      (rows_all now (settled_rows now b.rows) (recursion_from_All OfAsked (settled_rows now b.rows) all))
