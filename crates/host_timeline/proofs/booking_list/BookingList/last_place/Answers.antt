use Rattle.std.proofs.Common.{◌≡◌, ◌∙◌, ◌<◌, length, get_or, ap, subst, sym}
use Rattle.std.proofs.lemmas.Cmp.{tied_itself}
use Rattle.ps_lists.specs.PlacedList.{PlacedList}
use Rattle.host_timeline.specs.declared.booking.Booking.{Booking}
use Rattle.host_timeline.specs.declared.lane.Place.{Place}
use Rattle.host_timeline.specs.Lane.{place_cmp, place_of}
use Rattle.host_timeline.proofs.FoundLemmas.{there}
use Rattle.host_timeline.proofs.LaneLemmas.{place_cmp_total}
use Rattle.host_timeline.proofs.StartLemmas.{StandsAt}
use Rattle.host_timeline.proofs.booking_list.BookingList.last_place.Goals as goal

-- its place is on it alone
pub returns : goal.returns
returns c =
    let e = c.last_cell.result.now in
    let at = c.before_place.result in
    let xs = c.args.self.now.list in
    let last = c.args.self.now.last in
    let seen : c.self.inside.bookings.list ≡ xs = ap (λ (l : PlacedList Booking). l.list) c.self.view_is in
    let seen_last : c.self.inside.bookings.last ≡ last = ap (λ (l : PlacedList Booking). l.last) c.self.view_is in
    let within : last < length xs = rw (← seen, ← seen_last) c.last_cell.ensures.within in
    let value : e ≡ get_or xs last e = rw (← seen, ← seen_last) c.last_cell.ensures.value in
    let parted = subst (λ (p : Place). StandsAt xs p at) c.place_of.ensures c.before_place.ensures.parted in
    there place_cmp_total place_of xs c.requires.ascending (place_of e) at parted last e within (ap (λ (b : Booking). place_cmp (place_of b) (place_of e)) (sym value) ∙ tied_itself place_cmp_total (place_of e))
