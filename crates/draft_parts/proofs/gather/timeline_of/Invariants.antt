use Rattle.std.proofs.Common.{◌≡◌, ◌≤◌, [], drop, length}
use Rattle.draft_parts.specs.Overlay.{Takes, booked}
use Rattle.draft_parts.proofs.gather.timeline_of.Given as goal

-- what is left decides, can be taken in, and has places
abbrev pub invariant-loop-booking : goal.invariant-loop-booking
invariant-loop-booking l = record {
  left : booked l.bookings [] ≡ booked (drop l.booking-index l.bookings) l.made.list;
  takes : Takes (drop l.booking-index l.bookings) l.made.list;
  room : length (drop l.booking-index l.bookings) ≤ l.made.room;
}
