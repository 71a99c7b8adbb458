-- The bookings of a host, and the places that are reserved for more.
use Rattle.std.specs.Prelude.{◌≡◌, ℕ, ◌<◌, ◌≤◌, List, [], ◌∷◌, Option, length, slice_index_or}
use Rattle.std.specs.List.Sorted.{IsPartitionPoint}
use Rattle.std.specs.declared.cmp.Ordering.TheVariants.{Less, Equal, Greater}
use Rattle.ps_time.specs.declared.key.RunKey.{RunKey}
use Rattle.ps_time.specs.Key.{key_cmp}
use Rattle.ps_time.specs.Sorted.{find_key, without_key, insert_key, change_key, IsAscending}
use Rattle.host_timeline.specs.declared.booking.Booking.{Booking}
use Rattle.host_timeline.specs.Booking.{conflicting}

-- the bookings, ascending by key, and how many more fit
pub record Timeline : Type 0 where
  pub list : List Booking
  pub room : ℕ

-- the booking that has the key
abbrev pub find_booking : List Booking → RunKey → Option Booking
find_booking = find_key key_cmp (λ b. b.key)

-- the bookings with one more, in its place
abbrev pub with_booking : List Booking → Booking → List Booking
with_booking = insert_key key_cmp (λ b. b.key)

-- the bookings without the one that has the key
abbrev pub without_booking : List Booking → RunKey → List Booking
without_booking = without_key key_cmp (λ b. b.key)

-- a booking that can't be preempted any more
abbrev pub started_booking : Booking → Booking
started_booking b = record b { firm_from = 0 }

-- the bookings, of which the one that has the key can't be preempted any more
abbrev pub with_started : List Booking → RunKey → List Booking
with_started = change_key key_cmp (λ b. b.key) started_booking

-- each key is below those after it
abbrev pub IsAscendingBookings : List Booking → Type 0
IsAscendingBookings = IsAscending key_cmp (λ b. b.key)

-- no two of them conflict
abbrev pub IsConflictFree : List Booking → Type 0
IsConflictFree [] = Unit {0}
IsConflictFree (b ∷ bs) = (conflicting b.class b.interval bs ≡ []) × IsConflictFree bs

-- what every timeline keeps: its order by key, and that no two conflict
pub record IsInOrder (bookings : List Booking) : Type 0 where
  pub ascending : IsAscendingBookings bookings
  pub conflict_free : IsConflictFree bookings

-- the booking at place i has the key
pub record IsPlaceOf (bookings : List Booking) (key : RunKey) (i : ℕ) : Type 0 where
  pub within : i < length bookings
  pub same : (d : Booking) → key_cmp (slice_index_or bookings i d).key key ≡ Equal

-- a booking with the key would go at place i
pub record IsGapFor (bookings : List Booking) (key : RunKey) (i : ℕ) : Type 0 where
  pub within : i ≤ length bookings
  pub parted : IsPartitionPoint (λ b. key_cmp b.key key ≡ Less) (λ b. key_cmp b.key key ≡ Greater) bookings i
