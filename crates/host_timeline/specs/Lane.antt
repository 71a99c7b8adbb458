-- The bookings of one class, ascending by start, and those of all classes.
use Rattle.std.specs.List.{AllByRecursion, list_all}
use Rattle.std.specs.Ordering.{nat_cmp, on, then_cmp}
use Rattle.std.specs.Prelude.{◌≡◌, ◌+◌, ◌<◌, ◌≤◌, ◌&&◌, ◌||◌, ℕ, Bool, true, false, List, [], ◌∷◌, Option, None, Some, if◌then◌else◌, length, map, nat_le, nat_lt, not, slice_index_or}
use Rattle.std.specs.List.Sorted.{IsPartitionPoint}
use Rattle.std.specs.declared.cmp.Ordering.{Ordering}
use Rattle.std.specs.declared.cmp.Ordering.TheVariants.{Less, Equal, Greater}
use Rattle.ps_time.specs.Class.{conflicting_classes}
use Rattle.ps_time.specs.Key.{key_cmp}
use Rattle.ps_time.specs.Sorted.{find_key, without_key, insert_key, change_key, IsAscending}
use Rattle.ps_time.specs.declared.class.Class.{Class}
use Rattle.ps_time.specs.declared.class.Class.TheVariants.{BackgroundMulti, Background, Normal, Exclusive}
use Rattle.host_timeline.specs.declared.booking.Booking.{Booking}
use Rattle.host_timeline.specs.declared.lane.Place.{Place}
use Rattle.host_timeline.specs.Timeline.{started_booking}

-- ---- one class
-- by start, then by key
abbrev pub place_cmp : Place → Place → Ordering
place_cmp = then_cmp (on (λ p. p.start) nat_cmp) (on (λ p. p.key) key_cmp)

abbrev pub place_of : Booking → Place
place_of b = record { start = b.interval.start; key = b.key }

-- the bookings, ascending by place, and how many more fit
pub record Lane : Type 0 where
  pub list : List Booking
  pub room : ℕ

-- how many places there are, taken or not
abbrev pub places_of : Lane → ℕ
places_of lane = length lane.list + lane.room

-- the booking that has the place
abbrev pub find_place : List Booking → Place → Option Booking
find_place = find_key place_cmp place_of

-- the bookings with one more, in its place
abbrev pub with_place : List Booking → Booking → List Booking
with_place = insert_key place_cmp place_of

-- the bookings without the one that has the place
abbrev pub without_place : List Booking → Place → List Booking
without_place = without_key place_cmp place_of

-- the bookings, of which the one that has the place can't be preempted any more
abbrev pub with_started_place : List Booking → Place → List Booking
with_started_place = change_key place_cmp place_of started_booking

-- when each of them starts
abbrev pub starts_of : List Booking → List ℕ
starts_of = map (λ b. b.interval.start)

-- each place is below those after it
abbrev pub IsAscendingPlaces : List Booking → Type 0
IsAscendingPlaces = IsAscending place_cmp place_of

-- the order of a lane, and that each of its bookings takes time, but no longer than the longest
pub record IsLane (bookings : List Booking) (longest : ℕ) : Type 0 where
  pub ascending : IsAscendingPlaces bookings
  pub short : AllByRecursion (λ b. (b.interval.start < b.interval.end) × (b.interval.end ≤ b.interval.start + longest)) bookings

-- the booking at place i has the place
pub record IsFoundAt (bookings : List Booking) (place : Place) (i : ℕ) : Type 0 where
  pub within : i < length bookings
  pub same : (d : Booking) → place_cmp (place_of (slice_index_or bookings i d)) place ≡ Equal

-- a booking with the place would go to i
pub record IsOpenAt (bookings : List Booking) (place : Place) (i : ℕ) : Type 0 where
  pub within : i ≤ length bookings
  pub parted : IsPartitionPoint (λ b. place_cmp (place_of b) place ≡ Less) (λ b. place_cmp (place_of b) place ≡ Greater) bookings i

-- a start is before an end, if there is one
abbrev pub starts_by : Option ℕ → ℕ → Bool
starts_by None start = true
starts_by (Some until) start = nat_lt start until

-- some second from one moment on, before an end, lies in the booking
abbrev pub spans : ℕ → Option ℕ → Booking → Bool
spans from until b = nat_lt from b.interval.end && starts_by until b.interval.start

-- it starts no earlier than one moment, ends by another, or takes no time
abbrev pub reaches : ℕ → ℕ → Booking → Bool
reaches earliest from b = not (nat_lt b.interval.start b.interval.end && nat_lt from b.interval.end) || nat_le earliest b.interval.start

-- it starts from one moment on, before an end
abbrev pub starts_between : ℕ → Option ℕ → Booking → Bool
starts_between from until b = not (nat_lt b.interval.start from) && starts_by until b.interval.start

-- a test that lets all through that lies outside
abbrev pub PassesOutside : (Booking → Bool) → (Booking → Bool) → Type 0
PassesOutside inside test = (b : Booking) → inside b ≡ false → test b ≡ true

-- a test that lets none through that lies outside
abbrev pub FailsOutside : (Booking → Bool) → (Booking → Bool) → Type 0
FailsOutside inside test = (b : Booking) → inside b ≡ false → test b ≡ false

-- a test that lets none of the bookings through that lie outside
abbrev pub FailsOthers : List Booking → (Booking → Bool) → (Booking → Bool) → Type 0
FailsOthers bookings inside test = (i : ℕ) (d : Booking) → i < length bookings → inside (slice_index_or bookings i d) ≡ false → test (slice_index_or bookings i d) ≡ false

-- ---- all classes
-- the bookings of each class
pub record Lanes : Type 0 where
  pub background_multi : Lane
  pub background : Lane
  pub normal : Lane
  pub exclusive : Lane

abbrev pub lane_of : Class → Lanes → Lane
lane_of BackgroundMulti lanes = lanes.background_multi
lane_of Background lanes = lanes.background
lane_of Normal lanes = lanes.normal
lane_of Exclusive lanes = lanes.exclusive

abbrev pub same_class : Class → Class → Bool
same_class BackgroundMulti BackgroundMulti = true
same_class Background Background = true
same_class Normal Normal = true
same_class Exclusive Exclusive = true
same_class _ _ = false

-- how many of the bookings pass
abbrev pub how_many : (Booking → Bool) → List Booking → ℕ
how_many test [] = 0
how_many test (b ∷ bs) = (if test b then 1 else 0) + how_many test bs

-- the lanes have the bookings: of each kind as many as there are of the class
abbrev pub HoldLanes : List Booking → Lanes → Type 0
HoldLanes bookings lanes = (class : Class) (test : Booking → Bool) → how_many test (lane_of class lanes).list ≡ how_many (λ b. same_class class b.class && test b) bookings

-- each lane has at least this many places, taken or not
abbrev pub HavePlaces : ℕ → Lanes → Type 0
HavePlaces places lanes = (class : Class) → places ≤ places_of (lane_of class lanes)

-- the lane of one class was changed; all have the places that they had
pub record IsEdited (edit : List Booking → List Booking) (class : Class) (old new : Lanes) : Type 0 where
  pub list : (c : Class) → (lane_of c new).list ≡ (if same_class c class then edit (lane_of c old).list else (lane_of c old).list)
  pub places : (c : Class) → places_of (lane_of c new) ≡ places_of (lane_of c old)

-- those whose class conflicts start no earlier than one moment, or end by another
abbrev pub Reach : Class → ℕ → ℕ → Lanes → Type 0
Reach class earliest from lanes = (k : Class) → conflicting_classes class k ≡ true → list_all (reaches earliest from) (lane_of k lanes).list ≡ true

-- some second from one moment on, before an end, lies in the booking, and its class conflicts
abbrev pub is_beside : Class → ℕ → Option ℕ → Booking → Bool
is_beside class from until b = conflicting_classes class b.class && spans from until b

-- two lists decide each test that lets all through that isn't beside
abbrev pub Decide : Class → ℕ → Option ℕ → List Booking → List Booking → List Booking → Type 0
Decide class from until bookings some others = (test : Booking → Bool) → PassesOutside (is_beside class from until) test → (list_all test some && list_all test others) ≡ list_all test bookings

-- as many of two lists pass each test that lets none through that isn't beside
abbrev pub Have : Class → ℕ → Option ℕ → List Booking → List Booking → List Booking → Type 0
Have class from until bookings some others = (test : Booking → Bool) → FailsOutside (is_beside class from until) test → how_many test some + how_many test others ≡ how_many test bookings
