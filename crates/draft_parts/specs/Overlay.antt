-- Rows that lie over those of a book: copies of the ones that lapsed or were changed, and keys of the ones that went.
use Rattle.std.specs.Prelude.{◌≡◌, ◌+◌, ◌++◌, filter, ◌&&◌, ◌||◌, Bool, List, None, Option, Some, [], ◌∷◌, if◌then◌else◌, is_some, not, true, ℕ, ℤ}
use Rattle.std.specs.List.{list_any}
use Rattle.std.specs.Ordering.{is_eq, is_lt}
use Rattle.ps_time.specs.Key.{key_cmp}
use Rattle.ps_time.specs.Span.{Range, Span}
use Rattle.ps_time.specs.declared.class.Class.{Class}
use Rattle.ps_time.specs.declared.key.RunKey.{RunKey}
use Rattle.run_states.specs.Conflict.{in_conflict}
use Rattle.run_states.specs.Life.{first_there, settled_row}
use Rattle.run_states.specs.Preemption.{yields}
use Rattle.run_states.specs.Rows.{find_row}
use Rattle.run_states.specs.declared.row.RunRow.{RunRow}
use Rattle.host_book.specs.Reservations.{lapses}
use Rattle.host_model.specs.Apply.{put_new}
use Rattle.host_timeline.specs.Booking.{conflicting, conflicts_with, is_after}
use Rattle.host_timeline.specs.Timeline.{find_booking, with_booking}
use Rattle.host_timeline.specs.declared.booking.Booking.{Booking}
use Rattle.part_core.specs.Reservations.{bookings_of}
use Rattle.draft_parts.specs.declared.overlay.Sought.{Sought}

-- the key is one of these
abbrev pub named : RunKey → List RunKey → Bool
named k keys = list_any (λ j. is_eq (key_cmp j k)) keys

-- the book's row of a key, unless it went
abbrev pub below : List RunKey → List RunRow → RunKey → Option RunRow
below gone book k = if named k gone then None else find_row book k

-- the row of a key as it is now
abbrev pub over : List RunRow → List RunKey → List RunRow → RunKey → Option RunRow
over touched gone book k = first_there (find_row touched k) (below gone book k)

-- the book's row of this key isn't the one of now
abbrev pub hides : List RunRow → List RunKey → RunKey → Bool
hides touched gone k = is_some (find_row touched k) || named k gone

-- the copy, closed, of a row that lapses by m
abbrev pub lapsed_copy : ℕ → Option RunRow → Option RunRow
lapsed_copy m None = None
lapsed_copy m (Some r) = if lapses m r then Some (settled_row m r) else None

-- those of the book's rows of these keys, beside the copies that are there
abbrev pub lapsed_over : ℕ → List RunRow → List RunKey → List RunRow → List RunRow
lapsed_over m book [] touched = touched
lapsed_over m book (k ∷ ks) touched = lapsed_over m book ks (put_new (lapsed_copy m (find_row book k)) touched)

-- ---- which row is asked for
-- the row stands firm against a run of this priority, if there is one
abbrev pub is_hard : ℕ → Option ℤ → RunRow → Bool
is_hard m None r = true
is_hard m (Some priority) r = not (yields priority m r)

-- the row is sought
abbrev pub meets : ℕ → Sought → RunRow → Bool
meets m s r = in_conflict s.key s.class s.interval r && (is_after s.after r.key && is_hard m s.priority r)

-- the book's row of this key is the one of now, of another run, and stands firm
abbrev pub hard_below : ℕ → Sought → Option RunRow → Bool
hard_below m s None = true
hard_below m s (Some r) = is_hard m s.priority r

abbrev pub meets_below : ℕ → Sought → List RunRow → List RunKey → List RunRow → RunKey → Bool
meets_below m s touched gone book k = not (is_eq (key_cmp k s.key)) && (not (hides touched gone k) && hard_below m s (find_row book k))

-- ---- the newest row
-- the row of two, if they are there, whose key is the greater
abbrev pub later : Option RunRow → Option RunRow → Option RunRow
later None b = b
later (Some a) None = Some a
later (Some a) (Some b) = if is_lt (key_cmp a.key b.key) then Some b else Some a

-- ---- what is reserved now
-- the book's reservations of rows that are as they were
abbrev pub bare_bookings : List RunRow → List RunKey → List Booking → List Booking
bare_bookings touched gone bookings = filter (λ b. not (hides touched gone b.key)) bookings

-- the reservations once these were taken in
abbrev pub booked : List Booking → List Booking → List Booking
booked [] taken = taken
booked (b ∷ bs) taken = booked bs (with_booking taken b)

-- these can be taken in, one after another: each has a new key, and no conflict
abbrev pub Takes : List Booking → List Booking → Type 0
Takes [] taken = Unit {0}
Takes (b ∷ bs) taken = (find_booking taken b.key ≡ None) × (conflicting b.class b.interval taken ≡ []) × Takes bs (with_booking taken b)

-- what the rows of now reserve, in some order
abbrev pub gathered : List RunRow → List RunKey → List Booking → List Booking
gathered touched gone bookings = bare_bookings touched gone bookings ++ bookings_of touched

-- ---- what is near of that
-- the seconds that runs of this length take which start in the window
abbrev pub reach_of : ℕ → Range → Span
reach_of len w = record { start = w.first; end = w.last + len + 1 }

-- the booking may be in the way of a run of this class within the interval, if there is one
abbrev pub is_near : Class → Option Span → Booking → Bool
is_near class None b = true
is_near class (Some i) b = conflicts_with class i b

-- the book's reservations of rows that are as they were, where these are near
abbrev pub near_bookings : Class → Option Span → List RunRow → List RunKey → List Booking → List Booking
near_bookings class reach touched gone bookings = filter (λ b. is_near class reach b && not (hides touched gone b.key)) bookings

-- those, and what the copies reserve
abbrev pub near_gathered : Class → Option Span → List RunRow → List RunKey → List Booking → List Booking
near_gathered class reach touched gone bookings = near_bookings class reach touched gone bookings ++ bookings_of touched
