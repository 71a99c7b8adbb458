use Rattle.std.proofs.Common.{◌≡◌, ◌+◌, ◌≤◌, drop, length}
use Rattle.host_model.specs.Orders.{orders_from}
use Rattle.lead_orders.specs.Listing.{with_more}
use Rattle.lead_orders.proofs.listing.add_others.Given as goal

-- the orders so far, and those to the participants that are left
abbrev pub invariant-loop-other : goal.invariant-loop-other
invariant-loop-other l = record {
  value : with_more l.initial.orders (orders_from l.moment l.row 1 l.row.others) ≡ with_more l.orders (orders_from l.moment l.row l.place (drop l.other-index l.other-items));
  places : length l.orders ≤ 64;
  place : l.place ≡ l.other-index + 1;
}
