-- The value of a text of a length: a duration of ISO 8601 in its format with designators. The codes of these are P 80,
-- Y 89, M 77, W 87, D 68, T 84, H 72 and S 83.
use Rattle.std.specs.Prelude.{ℕ, ◌+◌, ◌*◌, ◌/◌, ◌%◌, Bool, ◌&&◌, ◌||◌, ◌==◌, nat_le, nat_lt, List, [], ◌∷◌, ◌++◌, length, drop, slice_index, Option, Some, None, is_some, Result, Ok, Err, if◌then◌else◌, codes}
use Rattle.std.specs.Fmt.{decimal}
use Rattle.std.specs.Option.{unwrap_or}
use Rattle.ps_time.specs.declared.moment.Round.TheVariants.{Up}
use Rattle.ps_time.specs.declared.moment.TimeFault.{TimeFault}
use Rattle.ps_time.specs.declared.moment.TimeFault.TheVariants.{Syntax, CalendarUnit, Range}
use Rattle.ps_time.specs.declared.read_length.Amount.{Amount}
use Rattle.ps_time.specs.Moment.{carried}
use Rattle.ps_time.specs.Numbers.{greatest_length}
use Rattle.ps_time.specs.Picture.{begins_as, leading_number, fraction_at}

-- a number, where its designator follows, and what follows that; else no number, and the text
abbrev pub count_before : ℕ → List ℕ → Option (ℕ × List ℕ) → Option ℕ × List ℕ
count_before designator bs None = (None, bs)
count_before designator bs (Some number) = if begins_as (designator ∷ []) number.1 then (Some number.0, drop 1 number.1) else (None, bs)

-- the count of this designator that the text begins with, if it does, and what follows it
unfoldable pub count_at : ℕ → List ℕ → Option ℕ × List ℕ
count_at designator bs = count_before designator bs (leading_number bs)

-- the same of seconds, with the digits of their fraction between the number and S
abbrev pub seconds_before : List ℕ → Option (ℕ × List ℕ) → ℕ × ℕ × List ℕ
seconds_before bs None = (0, 0, bs)
seconds_before bs (Some number) =
    let fraction = fraction_at number.1 in if begins_as (codes "S") fraction.1 then (number.0, fraction.0, drop 1 fraction.1) else (0, 0, bs)

unfoldable pub seconds_at : List ℕ → ℕ × ℕ × List ℕ
seconds_at bs = seconds_before bs (leading_number bs)

-- the counts of a text after P, in their order, each if it is there: whether years or months are among them, the
-- seconds of the weeks and days, and what follows
unfoldable pub days_at : List ℕ → Bool × ℕ × List ℕ
days_at bs =
    let years = count_at 89 bs in
    let months = count_at 77 years.1 in
    let weeks = count_at 87 months.1 in
    let days = count_at 68 weeks.1 in
    (is_some years.0 || is_some months.0, unwrap_or weeks.0 0 * 604_800 + unwrap_or days.0 0 * 86_400, days.1)

-- those after T: the seconds of the hours, minutes and seconds, the digits of the fraction, and what follows
unfoldable pub clock_at : List ℕ → ℕ × ℕ × List ℕ
clock_at bs =
    let hours = count_at 72 bs in
    let minutes = count_at 77 hours.1 in
    let seconds = seconds_at minutes.1 in
    (unwrap_or hours.0 0 * 3_600 + unwrap_or minutes.0 0 * 60 + seconds.0, seconds.1, seconds.2)

-- what a text of a length shows after P: at least one count, and after T at least one
unfoldable pub amount_of : List ℕ → Option Amount
amount_of bs =
    let days = days_at bs in
    let clock = clock_at (drop 1 days.2) in
    if length days.2 == 0 then
    (if length bs == 0 then None else Some (record { calendar = days.0; seconds = days.1; fraction = 0 }))
    else if slice_index days.2 0 == 84 && (nat_lt 1 (length days.2) && length clock.2 == 0) then
    Some (record { calendar = days.0; seconds = days.1 + clock.0; fraction = clock.1 })
    else None

-- a number of seconds as a length, where it is one
abbrev pub length_at : ℕ → Result ℕ TimeFault
length_at n = if nat_le n greatest_length then Ok n else Err Range

abbrev pub length_shown : Option Amount → Result ℕ TimeFault
length_shown None = Err Syntax
length_shown (Some a) = if a.calendar then Err CalendarUnit else length_at (a.seconds + carried Up a.fraction)

-- the length of a text, rounded up to whole seconds, or why it is none
unfoldable pub length_of : List ℕ → Result ℕ TimeFault
length_of bs = if slice_index bs 0 == 80 then length_shown (amount_of (drop 1 bs)) else Err Syntax

-- a count with its designator, where it isn't 0
abbrev pub counted : ℕ → List ℕ → List ℕ
counted n designator = if n == 0 then [] else decimal n ++ designator

abbrev pub count_text : ℕ → ℕ → List ℕ
count_text n designator = counted n (designator ∷ [])

-- the part of a second of the day, where it isn't the first
abbrev pub clock_part : ℕ → List ℕ
clock_part second =
    if second == 0 then []
    else codes "T" ++ count_text (second / 3_600) 72 ++ count_text (second % 3_600 / 60) 77 ++ count_text (second % 60) 83

-- a length as it is written: days, hours, minutes and seconds, those that are 0 left out
unfoldable pub length_text_of : ℕ → List ℕ
length_text_of n =
    if n == 0 then codes "PT0S" else codes "P" ++ count_text (n / 86_400) 68 ++ clock_part (n % 86_400)
