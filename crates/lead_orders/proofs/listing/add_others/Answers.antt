use Rattle.std.proofs.Common.{◌∙◌, sym, arith}
use Rattle.lead_orders.proofs.ListingLemmas.{last_other, next_other}
use Rattle.lead_orders.proofs.listing.add_others.Goals as goal

pub loop-other-preserved : goal.loop-other-preserved
loop-other-preserved c = record {
  value = c.loop-other.invariant.value ∙ next_other c.args.moment c.args.row.now c.loop-other.place c.loop-other.other-index c.as_slice-other-items.result.now c.other-item.result c.loop-other.orders c.add_all.new.orders (omega arith) c.other-item.is c.in_ok-add_all.ensures.value;
  places = c.in_ok-add_all.ensures.places;
  place = omega arith;
}

pub returns-clause-value : goal.returns-clause-value
returns-clause-value c =
    sym (c.loop-other.invariant.value ∙ last_other c.args.moment c.args.row.now c.loop-other.place c.loop-other.other-index c.as_slice-other-items.result.now c.loop-other.orders (omega arith) c.loop-other.invariant.places)
