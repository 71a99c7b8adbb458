use Rattle.std.proofs.Common.{◌≡◌}
use Rattle.host_timeline.specs.Booking.{firm, keys_of, least_key, lesser_of}
use Rattle.host_timeline.proofs.least_key.least_firm.Given as goal

-- the least so far, or what is left decides
abbrev pub invariant-loop-booking : goal.invariant-loop-booking
invariant-loop-booking l =
    lesser_of l.least (least_key (keys_of (firm l.class l.interval l.priority l.moment l.booking-iterator))) ≡ least_key (keys_of (firm l.fn.class l.fn.interval l.fn.priority l.fn.moment l.fn.bookings))
