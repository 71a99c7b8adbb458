use Rattle.std.proofs.Common.{◌≡◌, ◌≤◌, drop, length}
use Rattle.lead_orders.specs.Listing.{orders_at, with_more}
use Rattle.lead_orders.specs.Listing as listing
use Rattle.lead_orders.proofs.listing.orders_at.Given as goal

-- the orders so far, and those of what is left
abbrev pub invariant-loop-key : goal.invariant-loop-key
invariant-loop-key g l = record {
  value : orders_at (g.R.Reading.at l.book) l.keys (g.R.Reading.seen l.book) ≡ with_more l.orders (listing.orders_of_keys (g.R.Reading.at l.book) (drop l.key-index l.keys) (g.R.Reading.seen l.book));
  places : length l.orders ≤ 64;
}
