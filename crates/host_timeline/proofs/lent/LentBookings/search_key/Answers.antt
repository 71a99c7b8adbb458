use Rattle.std.proofs.Common.{◌∙◌, ap}
use Rattle.ps_time.specs.Key.{key_cmp}
use Rattle.ps_time.proofs.KeyLemmas.{key_cmp_total}
use Rattle.host_timeline.specs.declared.booking.Booking.{Booking}
use Rattle.host_timeline.proofs.FoundLemmas.{open_there}
use Rattle.host_timeline.proofs.lent.LentBookings.search_key.Goals as goal

-- the booking there has another key
pub returns-in_default : goal.returns-in_default
returns-in_default c = record {
  found = tt;
  absent = record {
    within = c.below-at.ensures.within;
    parted = open_there key_cmp_total (λ b. b.key) c.args.self.now c.requires c.args.key c.below-at.result c.below-at.ensures.parted c.at.result.now (λ within same. absurd (c.in_default.not-Equal (c.order.ensures ∙ ap (λ (b : Booking). key_cmp b.key c.args.key) c.at.ensures.value ∙ same)));
  };
}
