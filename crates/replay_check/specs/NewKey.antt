-- A booking whose key is new.
use Rattle.std.specs.Prelude.{◌≡◌, List, None, Option, Some}
use Rattle.host_timeline.specs.Timeline.{find_booking}
use Rattle.host_timeline.specs.declared.booking.Booking.{Booking}

-- no other booking has the key of one that may be there
abbrev pub HasNewKey : Option Booking → List Booking → Type 0
HasNewKey None bs = Unit {0}
HasNewKey (Some b) bs = find_booking bs b.key ≡ None
