-- The value of a text of a moment: a date and a time of day in the extended format of ISO 8601, with the difference
-- from UTC.
use Rattle.std.specs.Prelude.{ℕ, ◌+◌, ◌*◌, ◌/◌, ◌%◌, Bool, false, ◌&&◌, ◌||◌, ◌==◌, nat_le, List, [], ◌∷◌, ◌++◌, drop, slice_index, Option, Some, None, Result, Ok, Err, ℤ, pos, negsuc, neg_ℤ, ◌+ℤ◌, ◌-ℤ◌, ◌*ℤ◌, if◌then◌else◌, codes}
use Rattle.std.specs.Option.{option_map}
use Rattle.jiff_core.specs.Calendar.{days_from_civil}
use Rattle.ps_time.specs.declared.moment.Round.{Round}
use Rattle.ps_time.specs.declared.moment.Round.TheVariants.{Up, Down}
use Rattle.ps_time.specs.declared.moment.TimeFault.{TimeFault}
use Rattle.ps_time.specs.declared.moment.TimeFault.TheVariants.{Syntax, Range}
use Rattle.ps_time.specs.declared.read_moment.Offset.{Offset}
use Rattle.ps_time.specs.declared.read_moment.Stamp.{Stamp}
use Rattle.ps_time.specs.Calendar.{is_date, date_of_day}
use Rattle.ps_time.specs.Numbers.{greatest_moment}
use Rattle.ps_time.specs.Picture.{begins_as, is_as, number_at, fraction_at}

-- the seconds and their fraction that the text begins with, and what follows them; 0 without them
unfoldable pub seconds_at : List ℕ → ℕ × ℕ × List ℕ
seconds_at bs =
    if begins_as (codes ":00") bs then (number_at 1 2 bs, (fraction_at (drop 3 bs)).0, (fraction_at (drop 3 bs)).1)
    else (0, 0, bs)

-- a difference from UTC that begins with its sign, where - has the code 45
abbrev pub difference : List ℕ → ℕ → ℕ → Offset
difference bs hours minutes = record { behind = slice_index bs 0 == 45; hours = hours; minutes = minutes }

-- the difference from UTC that the whole text shows; Z and no text at all show UTC
unfoldable pub offset_of : List ℕ → Option Offset
offset_of bs =
    if is_as [] bs || is_as (codes "Z") bs then Some (record { behind = false; hours = 0; minutes = 0 })
    else if is_as (codes "+00") bs then Some (difference bs (number_at 1 2 bs) 0)
    else if is_as (codes "+0000") bs then Some (difference bs (number_at 1 2 bs) (number_at 3 2 bs))
    else if is_as (codes "+00:00") bs then Some (difference bs (number_at 1 2 bs) (number_at 4 2 bs))
    else None

-- what a text shows at the places of a date and a time of day, with these seconds and this difference
abbrev pub stamp : List ℕ → ℕ × ℕ × List ℕ → Offset → Stamp
stamp bs seconds offset = record {
  year = number_at 0 4 bs;
  month = number_at 5 2 bs;
  day = number_at 8 2 bs;
  hour = number_at 11 2 bs;
  minute = number_at 14 2 bs;
  second = seconds.0;
  fraction = seconds.1;
  offset = offset;
}

-- what a text of a moment shows
unfoldable pub stamp_of : List ℕ → Option Stamp
stamp_of bs =
    if begins_as (codes "0000-00-00T00:00") bs then (let seconds = seconds_at (drop 16 bs) in option_map (stamp bs seconds) (offset_of seconds.2))
    else None

-- the clock has the time, and the difference from UTC is below a day
abbrev pub on_clock : Stamp → Bool
on_clock s = nat_le s.hour 23 && (nat_le s.minute 59 && (nat_le s.second 59 && (nat_le s.offset.hours 23 && nat_le s.offset.minutes 59)))

-- the seconds by which a clock is ahead of UTC
abbrev pub seconds_ahead : Offset → ℤ
seconds_ahead o = if o.behind then neg_ℤ (pos (o.hours * 3_600 + o.minutes * 60)) else pos (o.hours * 3_600 + o.minutes * 60)

-- what rounding makes of a fraction with these digits: a whole second, or nothing
abbrev pub carried : Round → ℕ → ℕ
carried Up fraction = if fraction == 0 then 0 else 1
carried Down fraction = 0

-- the seconds from 1970-01-01T00:00:00 in UTC: those on the clock that is shown, less its difference, rounded
abbrev pub utc_of : ℤ → Round → Stamp → ℤ
utc_of day round s =
    ((day *ℤ pos 86_400 +ℤ pos (s.hour * 3_600 + s.minute * 60 + s.second)) -ℤ seconds_ahead s.offset) +ℤ pos (carried round s.fraction)

-- a number of seconds as a moment, where it is one
abbrev pub moment_at : ℤ → Result ℕ TimeFault
moment_at (pos n) = if nat_le n greatest_moment then Ok n else Err Range
moment_at (negsuc n) = Err Range

abbrev pub moment_shown : Round → Option Stamp → Result ℕ TimeFault
moment_shown round None = Err Syntax
moment_shown round (Some s) =
    if is_date s.year s.month s.day && on_clock s then moment_at (utc_of (days_from_civil (pos s.year) s.month s.day) round s)
    else Err Range

-- the moment of a text, or why it is none
unfoldable pub moment_of : Round → List ℕ → Result ℕ TimeFault
moment_of round bs = moment_shown round (stamp_of bs)

-- two digits of a number below a hundred, and four of one below ten thousand
abbrev pub two_digits : ℕ → List ℕ
two_digits n = (48 + n / 10) ∷ (48 + n % 10) ∷ []

abbrev pub four_digits : ℕ → List ℕ
four_digits n = two_digits (n / 100) ++ two_digits (n % 100)

-- a date as it is written, and a time of the day
abbrev pub date_text : ℕ × ℕ × ℕ → List ℕ
date_text date = four_digits date.0 ++ codes "-" ++ two_digits date.1 ++ codes "-" ++ two_digits date.2

abbrev pub clock_text : ℕ → List ℕ
clock_text second =
    two_digits (second / 3_600) ++ codes ":" ++ two_digits (second % 3_600 / 60) ++ codes ":" ++ two_digits (second % 60)

-- the day of a moment in UTC as it is written
unfoldable pub day_text_of : ℕ → List ℕ
day_text_of m = date_text (date_of_day (m / 86_400))

-- a moment as it is written
unfoldable pub moment_text_of : ℕ → List ℕ
moment_text_of m = date_text (date_of_day (m / 86_400)) ++ codes "T" ++ clock_text (m % 86_400) ++ codes "Z"
