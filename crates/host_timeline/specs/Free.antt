-- When a run could start: the starts without a conflict, and those whose conflicts can all be preempted.
use Rattle.std.specs.List.{list_all}
use Rattle.std.specs.Prelude.{ℕ, ℤ, Bool, not, ◌||◌, List}
use Rattle.ps_time.specs.Span.{Range, span_of}
use Rattle.ps_time.specs.Starts.{tier_of}
use Rattle.ps_time.specs.declared.class.Class.{Class}
use Rattle.ps_time.specs.declared.tiers.Tiers.{Tiers}
use Rattle.host_timeline.specs.declared.booking.Booking.{Booking}
use Rattle.host_timeline.specs.Booking.{conflicts_with, can_preempt}

-- no booking is in conflict with a run of this class and length that starts at s
abbrev pub is_free : Class → ℕ → List Booking → ℕ → Bool
is_free class len bookings s = list_all (λ b. not (conflicts_with class (span_of s len) b)) bookings

-- a run of this priority may preempt, at the moment m, each one that is in conflict
abbrev pub is_freeable : Class → ℕ → ℤ → ℕ → List Booking → ℕ → Bool
is_freeable class len priority m bookings s = list_all (λ b. not (conflicts_with class (span_of s len) b) || can_preempt priority m b) bookings

-- the starts in a window, as maximal windows of both kinds
abbrev pub free_tiers : Class → ℕ → ℤ → Range → ℕ → List Booking → Tiers
free_tiers class len priority w m bookings = record {
  first = tier_of (is_free class len bookings) w;
  second = tier_of (is_freeable class len priority m bookings) w;
}
