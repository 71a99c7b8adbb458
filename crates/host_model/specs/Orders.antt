-- The orders of a book: what its host has to say to the other participants of its runs.
use Rattle.std.specs.Prelude.{◌&&◌, ◌++◌, ◌+◌, ◌∷◌, Bool, List, None, Option, Some, [], false, flat_map, if◌then◌else◌, is_some, map, nat_le, nat_lt, not, take, true, ℕ}
use Rattle.ps_time.specs.Span.{Range, Span}
use Rattle.ps_time.specs.Numbers.{most_orders}
use Rattle.plugin_core.specs.declared.test_spec.TestSpec.{TestSpec}
use Rattle.plugin_core.specs.declared.test_spec.TestSpec.TheVariants.{Simplestream}
use Rattle.run_states.specs.Life.{is_active, is_booked, settled_rows}
use Rattle.run_states.specs.declared.answer.Other.{Other}
use Rattle.run_states.specs.declared.row.RunRow.{RunRow}
use Rattle.run_states.specs.Content.{kept_proposal}
use Rattle.host_model.specs.Book.{Book, moment_at}
use Rattle.host_model.specs.Heard.{name_at}
use Rattle.host_model.specs.declared.order.Order.{Order}
use Rattle.host_model.specs.declared.order.OrderBody.{OrderBody}
use Rattle.host_model.specs.declared.order.OrderBody.TheVariants.{Free, Propose, Confirm, Cancel, Material, Result}

-- one where the test holds, else none
abbrev pub order_if : Bool → OrderBody → List OrderBody
order_if true body = body ∷ []
order_if false body = []

-- a run's interval ends after m
abbrev pub is_before_end : ℕ → Option Span → Bool
is_before_end m None = false
is_before_end m (Some s) = nat_lt m s.end

-- a run's interval has come to its end by m
abbrev pub is_past_end : ℕ → Option Span → Bool
is_past_end m None = false
is_past_end m (Some s) = nat_le s.end m

-- ---- one kind of order each, to a participant of which this is known
-- while the row is asked and not closed, and the answer isn't heard
abbrev pub free_orders : RunRow → Other → Option Range → List OrderBody
free_orders r o None = []
free_orders r o (Some w) =
    order_if (not (is_some r.closed) && not (is_some o.free)) (Free (record { key = r.key; test = r.test; priority = r.priority; window = w }))

-- while it is accepted, neither confirmed nor closed, and the verdict isn't heard
abbrev pub propose_orders : RunRow → Other → List OrderBody
propose_orders r o = order_if (is_booked r && (not (is_some r.confirmed) && not o.accepted)) (Propose (kept_proposal r))

-- while it is confirmed and not closed, before its end, and the participant hasn't acknowledged
abbrev pub confirm_orders : ℕ → RunRow → Other → List OrderBody
confirm_orders m r o = order_if (is_some r.confirmed && (not (is_some r.closed) && (not o.confirm_told && is_before_end m r.interval))) Confirm

-- while it is closed, before its end, the participant had accepted, and hasn't acknowledged
abbrev pub cancel_orders : ℕ → RunRow → Other → List OrderBody
cancel_orders m r o = order_if (is_some r.closed && (o.accepted && (not o.cancel_told && is_before_end m r.interval))) Cancel

-- while it is active, from `dawdle` after its start on, and the participant hasn't acknowledged
abbrev pub material_orders : ℕ → RunRow → Other → TestSpec → Option ℕ → List OrderBody
material_orders m r o (Simplestream dest material dawdle timeout) (Some started) =
    order_if (is_active r && (not o.material_told && nat_le (started + dawdle) m)) (Material material)
material_orders m r o _ _ = []

-- while it is ended and not merged, from its interval's end on, and the result isn't heard
abbrev pub result_orders : ℕ → RunRow → Other → List OrderBody
result_orders m r o = order_if (is_some r.ended && (not (is_some r.merged) && (not (is_some o.heard) && is_past_end m r.interval))) Result

-- all that there is to say to it, in this order
abbrev pub bodies_to : ℕ → RunRow → Other → List OrderBody
bodies_to m r o =
    free_orders r o r.question ++ propose_orders r o ++ confirm_orders m r o ++ cancel_orders m r o ++ material_orders m r o r.test r.started ++ result_orders m r o

-- ---- all of them
abbrev pub order_to : RunRow → ℕ → OrderBody → Order
order_to r place body = record { key = r.key; place = place; to = name_at r place; body = body }

-- to the participants from a place on, of which these are known
abbrev pub orders_from : ℕ → RunRow → ℕ → List Other → List Order
orders_from m r place [] = []
orders_from m r place (o ∷ os) = map (order_to r place) (bodies_to m r o) ++ orders_from m r (place + 1) os

-- only rows that keep an asked moment have orders; the lead's place is 0
abbrev pub row_orders : ℕ → RunRow → List Order
row_orders m r = if is_some r.asked then orders_from m r 1 r.others else []

-- over rows that are settled at m, by key, then by place, the first 64
abbrev pub orders_of : List RunRow → ℕ → List Order
orders_of rows m = take most_orders (flat_map (row_orders m) rows)

-- the orders of a book at a clock
abbrev pub orders : Book → ℕ → List Order
orders b clock = let m = moment_at b clock in orders_of (settled_rows m b.rows) m
