use Rattle.std.proofs.Common.{◌≡◌, ◌++◌}
use Rattle.draft_parts.specs.Overlay.{bare_bookings}
use Rattle.draft_parts.proofs.gather.bare_bookings.Given as goal

-- those so far, and those of what is left
abbrev pub invariant-loop-booking : goal.invariant-loop-booking
invariant-loop-booking l = l.made.items ++ bare_bookings l.touched.list l.gone l.booking-iterator ≡ bare_bookings l.touched.list l.gone l.fn.bookings
