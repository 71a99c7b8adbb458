use Rattle.std.specs.Prelude.{IfSome}
use Rattle.std.specs.Option.{option_copied}
use Rattle.std.proofs.Common.{◌∙◌, sym, subst, arith}
use Rattle.lead_orders.specs.Listing.{HasFewOthers}
use Rattle.lead_orders.proofs.ListingLemmas.{few_found, last_key, next_key}
use Rattle.lead_orders.proofs.listing.orders_at.Goals as goal

pub add_found-requires-clause-few : goal.add_found-requires-clause-few
add_found-requires-clause-few g c = subst (λ o. IfSome o HasFewOthers) (sym c.find.ensures.row) (few_found (g.R.Reading.seen c.args.book.now) _ c.requires)

pub loop-key-preserved : goal.loop-key-preserved
loop-key-preserved g c = record {
  value = c.loop-key.invariant.value ∙ next_key (g.R.Reading.at c.args.book.now) c.moment-moment.result (g.R.Reading.seen c.args.book.now) c.loop-key.key-index c.args.keys.now _ (option_copied c.find.result) c.loop-key.orders c.add_found.new.orders (omega arith) c.moment-moment.ensures.value c.find.ensures.row c.in_ok-add_found.ensures.value;
  places = c.in_ok-add_found.ensures.places;
}

pub returns : goal.returns
returns g c =
    sym (c.loop-key.invariant.value ∙ last_key (g.R.Reading.at c.args.book.now) (g.R.Reading.seen c.args.book.now) c.loop-key.key-index c.args.keys.now c.loop-key.orders (omega arith) c.loop-key.invariant.places)
