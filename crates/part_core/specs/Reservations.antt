-- What the rows of a book reserve.
use Rattle.std.specs.Prelude.{◌∷◌, List, None, Option, Some, [], if◌then◌else◌, is_some}
use Rattle.ps_time.specs.Span.{Span}
use Rattle.plugin_core.specs.TestSpec.{test_class}
use Rattle.run_states.specs.Life.{is_booked}
use Rattle.run_states.specs.declared.row.RunRow.{RunRow}
use Rattle.host_timeline.specs.Booking.{firm_from_of}
use Rattle.host_timeline.specs.declared.booking.Booking.{Booking}

-- what a row with this interval reserves
abbrev pub reserved : RunRow → Option Span → Option Booking
reserved r None = None
reserved r (Some s) = Some (record {
  key = r.key;
  class = test_class r.test;
  interval = s;
  priority = r.priority;
  firm_from = firm_from_of s.start (is_some r.started);
})

-- what a booked row reserves
abbrev pub booking_of : RunRow → Option Booking
booking_of r = if is_booked r then reserved r r.interval else None

abbrev pub with_some : Option Booking → List Booking → List Booking
with_some None bs = bs
with_some (Some b) bs = b ∷ bs

-- what booked rows reserve, in their order
abbrev pub bookings_of : List RunRow → List Booking
bookings_of [] = []
bookings_of (r ∷ rs) = with_some (booking_of r) (bookings_of rs)
