-- A listing of orders, key by key, with a place for so many.
use Rattle.std.specs.List.{list_any}
use Rattle.std.specs.Ordering.{is_eq}
use Rattle.std.specs.Prelude.{◌++◌, ◌<◌, ◌≡◌, Bool, List, None, Option, Some, [], false, flat_map, length, take, ℕ}
use Rattle.ps_time.specs.Key.{key_cmp}
use Rattle.ps_time.specs.Numbers.{most_orders}
use Rattle.ps_time.specs.Sorted.{IsAscending}
use Rattle.ps_time.specs.declared.key.RunKey.{RunKey}
use Rattle.run_states.specs.Rows.{find_row}
use Rattle.run_states.specs.declared.row.RunRow.{RunRow}
use Rattle.host_model.specs.Orders.{row_orders}
use Rattle.host_model.specs.declared.order.Order.{Order}

-- each key is below those after it
abbrev pub AreAscending : List RunKey → Type 0
AreAscending = IsAscending key_cmp (λ k. k)

-- the key is among these
abbrev pub is_among : List RunKey → RunKey → Bool
is_among keys k = list_any (λ j. is_eq (key_cmp j k)) keys

-- places of its other participants are numbers of 8 bits
abbrev pub HasFewOthers : RunRow → Type 0
HasFewOthers r = length r.others < 255

-- the orders at m of a row that may be there
abbrev pub found_orders : ℕ → Option RunRow → List Order
found_orders m None = []
found_orders m (Some r) = row_orders m r

-- every row that has orders at m is named by one of the keys
abbrev pub HaveOrders : ℕ → List RunKey → List RunRow → Type 0
HaveOrders m keys rows = (k : RunKey) → is_among keys k ≡ false → found_orders m (find_row rows k) ≡ []

-- orders, with more behind them, as far as there are places
abbrev pub with_more : List Order → List Order → List Order
with_more done more = take most_orders (done ++ more)

-- the orders at m of the rows that the keys name, key by key
abbrev pub orders_of_keys : ℕ → List RunKey → List RunRow → List Order
orders_of_keys m keys rows = flat_map (λ k. found_orders m (find_row rows k)) keys

-- the first 64 of them
abbrev pub orders_at : ℕ → List RunKey → List RunRow → List Order
orders_at m keys rows = take most_orders (orders_of_keys m keys rows)
