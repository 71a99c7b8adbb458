use Rattle.std.proofs.Common.{◌≡◌}
use Rattle.host_timeline.specs.Booking.{conflicting_after, keys_of, least_key, lesser_of}
use Rattle.host_timeline.proofs.least_key.least_conflict.Given as goal

-- the least so far, or what is left decides
abbrev pub invariant-loop-booking : goal.invariant-loop-booking
invariant-loop-booking l =
    lesser_of l.least (least_key (keys_of (conflicting_after l.class l.interval l.after l.booking-iterator))) ≡ least_key (keys_of (conflicting_after l.fn.class l.fn.interval l.fn.after l.fn.bookings))
