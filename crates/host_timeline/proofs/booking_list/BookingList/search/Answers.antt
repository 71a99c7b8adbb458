use Rattle.std.proofs.Common.{◌≡◌, ◌∙◌, get_or, ap}
use Rattle.ps_lists.specs.PlacedList.{PlacedList}
use Rattle.host_timeline.specs.declared.booking.Booking.{Booking}
use Rattle.host_timeline.specs.declared.lane.Place.{Place}
use Rattle.host_timeline.specs.Lane.{place_cmp, place_of}
use Rattle.host_timeline.proofs.FoundLemmas.{open_there}
use Rattle.host_timeline.proofs.LaneLemmas.{place_cmp_total}
use Rattle.host_timeline.proofs.booking_list.BookingList.search.Goals as goal

-- the booking there has another place
pub returns-in_default : goal.returns-in_default
returns-in_default c =
    let e = c.index.result.now in
    let at = c.before_place-at.result in
    let seen : c.self.inside.bookings.list ≡ c.args.self.now.list = ap (λ (l : PlacedList Booking). l.list) c.self.view_is in
    let value : e ≡ get_or c.args.self.now.list at e = rw (← seen) c.index.ensures in
    record {
      found = tt;
      absent = record {
        within = c.before_place-at.ensures.within;
        parted = open_there place_cmp_total place_of c.args.self.now.list c.requires c.args.place at c.before_place-at.ensures.parted e
            (λ within same. absurd (c.in_default.not-Equal (c.order.ensures ∙ ap (λ (p : Place). place_cmp p c.args.place) c.place_of.ensures ∙ ap (λ (b : Booking). place_cmp (place_of b) c.args.place) value ∙ same)));
      };
    }
