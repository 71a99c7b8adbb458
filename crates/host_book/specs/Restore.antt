-- Bookings that come one after another, where they may.
use Rattle.std.specs.Prelude.{◌≡◌, List, None, Option, Some, []}
use Rattle.host_timeline.specs.Booking.{conflicting}
use Rattle.host_timeline.specs.Timeline.{find_booking, with_booking}
use Rattle.host_timeline.specs.declared.booking.Booking.{Booking}

-- a booking that may be there has a new key, and no conflict
abbrev pub IsFree : Option Booking → List Booking → Type 0
IsFree None bs = Unit {0}
IsFree (Some b) bs = (find_booking bs b.key ≡ None) × (conflicting b.class b.interval bs ≡ [])

-- the bookings with one that may be there
abbrev pub with_found : Option Booking → List Booking → List Booking
with_found None bs = bs
with_found (Some b) bs = with_booking bs b
