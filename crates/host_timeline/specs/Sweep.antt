-- How free starts are found: a sweep over the bookings that could keep a run out, ascending by start.
use Rattle.std.specs.List.{AllByRecursion, list_all}
use Rattle.std.specs.Option.{option_to_list}
use Rattle.std.specs.Prelude.{◌≤◌, ◌<◌, ◌+◌, ◌-◌, ◌++◌, ◌∷◌, ◌&&◌, [], ℕ, Bool, List, Option, Some, None, if◌then◌else◌, max, min, nat_le, nat_lt, not, take}
use Rattle.ps_time.specs.Class.{conflicting_classes}
use Rattle.ps_time.specs.Numbers.{most_intervals}
use Rattle.ps_time.specs.Span.{Range, overlap, span_of}
use Rattle.ps_time.specs.declared.class.Class.{Class}
use Rattle.host_timeline.specs.declared.booking.Booking.{Booking}

-- the first start at which a run of this length overlaps the booking; the last one is before the booking's end
abbrev pub barred_from : ℕ → Booking → ℕ
barred_from len b = b.interval.start + 1 - len

-- the class conflicts, and some start of the window is barred
abbrev pub is_near : Class → ℕ → Range → Booking → Bool
is_near class len w b = conflicting_classes class b.class && (nat_lt (barred_from len b) b.interval.end && (nat_le (barred_from len b) w.last && nat_lt w.first b.interval.end))

-- a run of this length that starts at s overlaps none of the bookings
abbrev pub is_clear : ℕ → List Booking → ℕ → Bool
is_clear len bookings s = list_all (λ b. not (overlap (span_of s len) b.interval)) bookings

-- each bars a start, and none begins before those ahead of it
abbrev pub IsSwept : ℕ → List Booking → Type 0
IsSwept len [] = Unit {0}
IsSwept len (b ∷ bs) = (barred_from len b < b.interval.end) × AllByRecursion (λ d. b.interval.start ≤ d.interval.start) bs × IsSwept len bs

-- the starts from one on, before another, and up to the last one
abbrev pub window_before : ℕ → ℕ → ℕ → Option Range
window_before from until last = if nat_lt from until && nat_le from last then Some (record { first = from; last = min (until - 1) last }) else None

-- the starts from one on up to the last one
abbrev pub window_to : ℕ → ℕ → Option Range
window_to from last = if nat_le from last then Some (record { first = from; last = last }) else None

-- the windows of starts from this one on, up to the last one, at which nothing is overlapped
abbrev pub gaps : ℕ → ℕ → List Booking → ℕ → List Range
gaps len last [] from = option_to_list (window_to from last)
gaps len last (b ∷ bs) from = option_to_list (window_before from (barred_from len b) last) ++ gaps len last bs (max from b.interval.end)

-- one more window, if there is one, and if there is place
abbrev pub with_window : List Range → Option Range → List Range
with_window windows more = take most_intervals (windows ++ option_to_list more)
