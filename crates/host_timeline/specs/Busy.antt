-- The seconds that bookings take, as maximal ranges, and how ranges change as a booking comes or goes.
use Rattle.std.specs.List.{AllByRecursion, list_all, list_any}
use Rattle.std.specs.Option.{option_to_list}
use Rattle.std.specs.Prelude.{◌≡◌, ◌+◌, ◌<◌, ◌≤◌, ◌++◌, ◌&&◌, ◌||◌, ℕ, Bool, true, not, List, [], ◌∷◌, Option, Some, None, if◌then◌else◌, length, max, min, nat_le, nat_lt}
use Rattle.ps_time.specs.Class.{conflicting_classes}
use Rattle.ps_time.specs.Span.{Span}
use Rattle.ps_time.specs.declared.class.Class.{Class}
use Rattle.ps_time.specs.declared.class.Class.TheVariants.{Normal, Exclusive}
use Rattle.host_timeline.specs.declared.booking.Booking.{Booking}
use Rattle.host_timeline.specs.Booking.{conflicts_with}
use Rattle.host_timeline.specs.Lane.{Lanes, HoldLanes}

-- ---- what is taken
-- the second lies in the interval
abbrev pub has_second : Span → ℕ → Bool
has_second s second = nat_le s.start second && nat_lt second s.end

-- the second lies in one of the ranges
abbrev pub covers : List Span → ℕ → Bool
covers ranges second = list_any (λ r. has_second r second) ranges

-- each range ends before those after it begin, and some second lies between them
abbrev pub IsApart : List Span → Type 0
IsApart [] = Unit {0}
IsApart (r ∷ rs) = (r.start < r.end) × AllByRecursion (λ d. r.end < d.start) rs × IsApart rs

-- a booking whose class conflicts takes the second
abbrev pub takes_second : Class → ℕ → Booking → Bool
takes_second class second b = conflicting_classes class b.class && has_second b.interval second

-- one of the bookings takes the second for the class
abbrev pub is_busy : Class → List Booking → ℕ → Bool
is_busy class bookings second = list_any (takes_second class second) bookings

-- ---- ranges
-- the ranges, and how many more fit
pub record Ranges : Type 0 where
  pub list : List Span
  pub room : ℕ

-- how many places there are, taken or not
abbrev pub range_places : Ranges → ℕ
range_places ranges = length ranges.list + ranges.room

-- the least interval that has both
abbrev pub hull : Span → Span → Span
hull a b = record { start = min a.start b.start; end = max a.end b.end }

-- the ranges with an interval, joined with those that it overlaps or touches
abbrev pub with_range : List Span → Span → List Span
with_range [] s = s ∷ []
with_range (r ∷ rs) s =
    if nat_lt r.end s.start then r ∷ with_range rs s
    else if nat_lt s.end r.start then s ∷ r ∷ rs
    else with_range rs (hull r s)

-- the seconds from one on, before another, if there are any
abbrev pub span_between : ℕ → ℕ → Option Span
span_between start end = if nat_lt start end then Some (record { start = start; end = end }) else None

-- what is left of a range without an interval that lies in it
abbrev pub pieces : Span → Span → List Span
pieces r s = option_to_list (span_between r.start s.start) ++ option_to_list (span_between s.end r.end)

-- the ranges without an interval that lies in one of them
abbrev pub without_range : List Span → Span → List Span
without_range [] s = []
without_range (r ∷ rs) s = if nat_lt s.start r.end then pieces r s ++ rs else r ∷ without_range rs s

-- each second of the interval lies in one of the ranges
abbrev pub IsCovered : List Span → Span → Type 0
IsCovered ranges s = (second : ℕ) → s.start ≤ second → second < s.end → covers ranges second ≡ true

-- each range begins at a second that passes
abbrev pub begin_at : (ℕ → Bool) → List Span → Bool
begin_at begins ranges = list_all (λ r. begins r.start) ranges

-- whatever conflicts with the run begins at a second that passes
abbrev pub conflicts_begin_at : (ℕ → Bool) → Class → Span → List Booking → Bool
conflicts_begin_at begins class interval bookings = list_all (λ b. not (conflicts_with class interval b) || begins b.interval.start) bookings

-- ranges that begin at such seconds leave a place
abbrev pub LeavesPlace : (ℕ → Bool) → ℕ → Type 0
LeavesPlace begins places = (ranges : List Span) → IsApart ranges → begin_at begins ranges ≡ true → length ranges < places

-- there are places for the ranges, and for the bookings in conflict with a run
pub record HavePlacesFor (class : Class) (interval : Span) (ranges : Ranges) (bookings : List Booking) : Type 0 where
  pub begins : ℕ → Bool
  pub apart : IsApart ranges.list
  pub leaves : LeavesPlace begins (range_places ranges)
  pub standing : begin_at begins ranges.list ≡ true
  pub coming : conflicts_begin_at begins class interval bookings ≡ true

-- the bookings in conflict with a run that take the second
abbrev pub takes_beside : Class → Span → ℕ → Booking → Bool
takes_beside class interval second b = conflicts_with class interval b && has_second b.interval second

-- ---- classes
-- what is taken for a class that can conflict
pub record Busy : Type 0 where
  pub normal : Ranges
  pub exclusive : Ranges

-- the ranges are what the bookings take for the class
pub record IsBusy (class : Class) (bookings : List Booking) (ranges : List Span) : Type 0 where
  pub covered : (second : ℕ) → covers ranges second ≡ is_busy class bookings second
  pub apart : IsApart ranges

-- they are so for both classes, and have more places than this, unless it is 0
pub record AreBusy (bookings : List Booking) (places : ℕ) (busy : Busy) : Type 0 where
  pub normal : IsBusy Normal bookings busy.normal.list
  pub exclusive : IsBusy Exclusive bookings busy.exclusive.list
  pub normal_places : 0 < places → places < range_places busy.normal
  pub exclusive_places : 0 < places → places < range_places busy.exclusive

-- the ranges have what a booking takes beside those in the lanes, and places for what these take without it
pub record CanUncover (class : Class) (booking : Booking) (lanes : Lanes) (ranges : Ranges) : Type 0 where
  pub bookings : List Booking
  pub hold : HoldLanes bookings lanes
  pub busy : IsBusy class (booking ∷ bookings) ranges.list
  pub places : length bookings + 1 < range_places ranges

-- so it is for both classes
pub record CanRelease (booking : Booking) (lanes : Lanes) (busy : Busy) : Type 0 where
  pub bookings : List Booking
  pub places : ℕ
  pub hold : HoldLanes bookings lanes
  pub are_busy : AreBusy (booking ∷ bookings) places busy
  pub taken : length bookings < places
