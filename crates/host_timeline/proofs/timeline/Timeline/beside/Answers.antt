use Rattle.host_timeline.proofs.timeline.Timeline.beside.Goals as goal

-- what conflicts lies in the ranges
pub beside-requires : goal.beside-requires
beside-requires c = c.reach_back-earliest.ensures c.self.inside.bookings.list c.self.inside.places c.self.inside.lanes c.self.invariant.are_busy c.self.invariant.hold
