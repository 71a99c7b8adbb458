-- Days of the calendar and their numbers.
use Rattle.std.specs.Prelude.{ℕ, zero, suc, ◌+◌, ◌-◌, Bool, ◌&&◌, nat_lt, nat_le, Option, Some, None, ℤ, pos, if◌then◌else◌}
use Rattle.jiff_core.specs.Calendar.{days_from_civil, days_in_month, days_in_year}

-- the calendar has this day, in the years 0 to 9999
abbrev pub is_date : ℕ → ℕ → ℕ → Bool
is_date year month day =
    nat_le year 9999 && (nat_le 1 month && (nat_le month 12 && (nat_le 1 day && nat_le day (days_in_month (pos year) month))))

-- its number: 0 for 1970-01-01, and negative before it
abbrev pub day_of_date : ℕ → ℕ → ℕ → Option ℤ
day_of_date year month day = if is_date year month day then Some (days_from_civil (pos year) month day) else None

-- the year of the day that is so many days after the first of the year, and the days since the first of its own, where
-- at most `most` years are passed
unfoldable pub year_after : ℕ → ℕ → ℕ → ℕ × ℕ
year_after zero year days = (year, days)
year_after (suc most) year days =
    if nat_lt days (days_in_year (pos year)) then (year, days) else year_after most (year + 1) (days - days_in_year (pos year))

-- the same of the months of a year
unfoldable pub month_after : ℕ → ℕ → ℕ → ℕ → ℕ × ℕ
month_after zero year month days = (month, days)
month_after (suc most) year month days =
    if nat_lt days (days_in_month (pos year) month) then (month, days)
    else month_after most year (month + 1) (days - days_in_month (pos year) month)

-- the year, month and day with this number, in the years 1970 to 2100
unfoldable pub date_of_day : ℕ → ℕ × ℕ × ℕ
date_of_day n =
    let year = year_after 130 1970 n in let month = month_after 11 year.0 1 year.1 in (year.0, month.0, month.1 + 1)
