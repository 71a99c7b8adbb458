use Rattle.std.proofs.Common.{◌∙◌, ap}
use Rattle.std.specs.List.{insert}
use Rattle.host_timeline.specs.declared.lane.Place.{Place}
use Rattle.host_timeline.specs.Lane.{starts_of}
use Rattle.host_timeline.proofs.StartLemmas.{starts_inserted}
use Rattle.host_timeline.proofs.booking_list.BookingList.insert.Goals as goal

-- its start goes where it goes
pub invariant_of-self : goal.invariant_of-self
invariant_of-self c =
    let bs = c.self.inside.bookings.list in
    let start = ap (λ (p : Place). p.start) c.place_of.ensures in
    rw (c.insert.ensures.list, c.self.invariant, c.insert-2.ensures.list) (ap (λ n. insert (starts_of bs) c.args.at n) start ∙ starts_inserted bs c.args.at c.args.booking.now)
