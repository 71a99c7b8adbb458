-- When bookings conflict with a run, and which of them it may preempt.
use Rattle.std.specs.Prelude.{ℕ, ℤ, Bool, true, not, ◌&&◌, ◌||◌, ◌-◌, nat_lt, List, [], ◌∷◌, Option, Some, None, map, filter, if◌then◌else◌}
use Rattle.std.specs.Ordering.{is_eq, is_lt, int_cmp}
use Rattle.ps_time.specs.declared.class.Class.{Class}
use Rattle.ps_time.specs.declared.key.RunKey.{RunKey}
use Rattle.ps_time.specs.Class.{clash}
use Rattle.ps_time.specs.Key.{key_cmp}
use Rattle.ps_time.specs.Numbers.{on_deck}
use Rattle.ps_time.specs.Span.{Span}
use Rattle.host_timeline.specs.declared.booking.Booking.{Booking}

-- the moment from which a run can't be preempted: 10 s before its start, or 0 once it was started
abbrev pub firm_from_of : ℕ → Bool → ℕ
firm_from_of start started = if started then 0 else start - on_deck

-- a run of this class and interval conflicts with the booking
abbrev pub conflicts_with : Class → Span → Booking → Bool
conflicts_with class interval b = clash class interval b.class b.interval

-- a run of this priority may preempt the booking at the moment
abbrev pub can_preempt : ℤ → ℕ → Booking → Bool
can_preempt priority moment b = is_lt (int_cmp b.priority priority) && nat_lt moment b.firm_from

-- it conflicts with the run, which may not preempt it at the moment
abbrev pub is_firm : Class → Span → ℤ → ℕ → Booking → Bool
is_firm class interval priority moment b = conflicts_with class interval b && not (can_preempt priority moment b)

-- the bookings in conflict with the run
abbrev pub conflicting : Class → Span → List Booking → List Booking
conflicting class interval bookings = filter (conflicts_with class interval) bookings

-- those of them that it may not preempt
abbrev pub firm : Class → Span → ℤ → ℕ → List Booking → List Booking
firm class interval priority moment bookings = filter (is_firm class interval priority moment) bookings

abbrev pub keys_of : List Booking → List RunKey
keys_of bookings = map (λ b. b.key) bookings

-- the lesser of a key and one that may be there
abbrev pub lesser : RunKey → Option RunKey → RunKey
lesser k None = k
lesser k (Some j) = if is_lt (key_cmp j k) then j else k

-- the lesser of two keys that may be there
abbrev pub lesser_of : Option RunKey → Option RunKey → Option RunKey
lesser_of None b = b
lesser_of (Some a) b = Some (lesser a b)

-- the least of the keys, in whatever order they stand; None where there is none
abbrev pub least_key : List RunKey → Option RunKey
least_key [] = None
least_key (k ∷ ks) = Some (lesser k (least_key ks))

-- a key is above another, if that is there
abbrev pub is_after : Option RunKey → RunKey → Bool
is_after None k = true
is_after (Some low) k = is_lt (key_cmp low k)

-- the bookings in conflict with the run whose keys are above another
abbrev pub conflicting_after : Class → Span → Option RunKey → List Booking → List Booking
conflicting_after class interval after bookings = filter (λ b. is_after after b.key && conflicts_with class interval b) bookings

-- the booking is in no conflict with the run, or has another key
abbrev pub is_other : Class → Span → RunKey → Booking → Bool
is_other class interval key b = not (conflicts_with class interval b) || not (is_eq (key_cmp b.key key))

-- a key and those after it, if there is one
abbrev pub key_and : Option RunKey → (RunKey → List RunKey) → List RunKey
key_and None rest = []
key_and (Some k) rest = k ∷ rest k

-- the bookings without those in conflict with the run
abbrev pub without_conflicts : Class → Span → List Booking → List Booking
without_conflicts class interval bookings = filter (λ b. not (conflicts_with class interval b)) bookings
