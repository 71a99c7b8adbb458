use Rattle.std.proofs.Common.{◌≡◌, ◌++◌}
use Rattle.host_timeline.specs.Booking.{conflicting, keys_of}
use Rattle.host_timeline.proofs.least_key.add_conflicts.Given as goal

-- those so far, and those of what is left
abbrev pub invariant-loop-booking : goal.invariant-loop-booking
invariant-loop-booking l = l.keys.items ++ keys_of (conflicting l.class l.interval l.booking-iterator) ≡ l.fn.keys.items ++ keys_of (conflicting l.class l.interval l.fn.bookings)
