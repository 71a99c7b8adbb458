-- Which orders of a host are due, and that a listing has the first of them.
use Rattle.std.specs.Ordering.{nat_cmp, on, then_cmp}
use Rattle.std.specs.Prelude.{◌≡◌, ◌≤◌, ◌⊎◌, Contains, IsSome, List, Some, flat_map, length, ℕ}
use Rattle.std.specs.declared.cmp.Ordering.{Ordering}
use Rattle.std.specs.declared.cmp.Ordering.TheVariants.{Less}
use Rattle.ps_time.specs.Key.{key_cmp}
use Rattle.ps_time.specs.Sorted.{IsAscending}
use Rattle.run_states.specs.Rows.{find_row}
use Rattle.run_states.specs.declared.answer.Other.{Other}
use Rattle.run_states.specs.declared.row.RunRow.{RunRow}
use Rattle.host_model.specs.Heard.{name_at, other_at}
use Rattle.host_model.specs.Orders.{row_orders}
use Rattle.host_model.specs.declared.order.Order.{Order}
use Rattle.host_model.specs.declared.order.OrderBody.{OrderBody}
use Rattle.host_model.specs.declared.order.OrderBody.TheVariants.{Free, Propose, Confirm, Cancel, Material, Result}
use Rattle.lead_orders.specs.Due.{IsDue}

-- its place among the kinds
abbrev pub kind_of : OrderBody → ℕ
kind_of (Free q) = 0
kind_of (Propose p) = 1
kind_of Confirm = 2
kind_of Cancel = 3
kind_of (Material text) = 4
kind_of Result = 5

-- by key, then by place, then by kind
abbrev pub order_cmp : Order → Order → Ordering
order_cmp = then_cmp (on (λ x. x.key) key_cmp) (then_cmp (on (λ x. x.place) nat_cmp) (on (λ x. kind_of x.body) nat_cmp))

-- all orders of these rows at m, before the list is cut
abbrev pub all_orders : ℕ → List RunRow → List Order
all_orders m rows = flat_map (row_orders m) rows

-- the host of this number has it to say at m: the row of its key is this host's and was asked about, and of the
-- participant that it names the condition of its kind holds
pub record IsDueOrder (self m : ℕ) (rows : List RunRow) (x : Order) : Type 0 where
  pub row : RunRow
  pub other : Other
  pub found : find_row rows x.key ≡ Some row
  pub own : row.key.lead ≡ self
  pub asked : IsSome row.asked
  pub known : other_at row x.place ≡ Some other
  pub named : name_at row x.place ≡ x.to
  pub due : IsDue m row other x.body

-- the first so many, in this order, of all for which P holds
pub record AreFirst {X : Type 0} (cmp : X → X → Ordering) (n : ℕ) (P : X → Type 0) (xs : List X) : Type 0 where
  pub few : length xs ≤ n
  pub ascending : IsAscending cmp (λ x. x) xs
  pub hold : (x : X) → Contains xs x → P x
  -- one that is left out comes after all of them, and there was no place for it
  pub rest : (x : X) → P x → Contains xs x ⊎ ((length xs ≡ n) × ((y : X) → Contains xs y → cmp y x ≡ Less))
