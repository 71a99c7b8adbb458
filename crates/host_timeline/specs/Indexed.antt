-- What a timeline keeps beside its bookings, and what holds of that.
use Rattle.std.specs.Prelude.{◌≤◌, ℕ, List, length}
use Rattle.host_timeline.specs.declared.booking.Booking.{Booking}
use Rattle.host_timeline.specs.Busy.{Busy, AreBusy}
use Rattle.host_timeline.specs.Lane.{Lanes, HavePlaces, HoldLanes}
use Rattle.host_timeline.specs.Timeline.{IsInOrder}

-- the bookings are in order, the lanes have the same ones, the ranges what these take, and all have the places that are
-- reserved
pub record IsIndexed (bookings : List Booking) (capacity places : ℕ) (lanes : Lanes) (busy : Busy) : Type 0 where
  pub in_order : IsInOrder bookings
  pub taken : length bookings ≤ places
  pub fits : places ≤ capacity
  pub hold : HoldLanes bookings lanes
  pub have : HavePlaces places lanes
  pub are_busy : AreBusy bookings places busy
