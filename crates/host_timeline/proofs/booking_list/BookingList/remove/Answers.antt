use Rattle.host_timeline.proofs.StartLemmas.{starts_removed}
use Rattle.host_timeline.proofs.booking_list.BookingList.remove.Goals as goal

-- its start goes with it
pub invariant_of-self : goal.invariant_of-self
invariant_of-self c = rw (c.remove.ensures.list, c.self.invariant, c.remove-2.ensures.list) (starts_removed c.self.inside.bookings.list c.args.at)
