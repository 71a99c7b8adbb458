-- What the calendar (Gregorian, without an end) and the clock show, in UTC.
use Rattle.std.specs.Prelude.{ℕ, ◌+◌, ◌/◌, ◌%◌}
use Rattle.ps_time.specs.Calendar.{year_after, month_after}
use Rattle.limit_rule.specs.declared.civil.Civil.{Civil}

-- the month of a day, and its place there from 1: day 0 is 1970-01-01, and the calendar repeats after 400 years, which
-- have 146,097 days
unfoldable pub month_day_of : ℕ → ℕ × ℕ
month_day_of n =
    let year = year_after 400 1970 (n % 146_097) in
    let month = month_after 11 year.0 1 year.1 in
    (month.0, month.1 + 1)

-- the day's place in the week: 1 is Monday, 7 is Sunday, and day 0 was a Thursday
abbrev pub weekday_of : ℕ → ℕ
weekday_of n = (n + 3) % 7 + 1

abbrev pub civil_of : ℕ → Civil
civil_of second = record {
  month = (month_day_of (second / 86_400)).0;
  monthday = (month_day_of (second / 86_400)).1;
  weekday = weekday_of (second / 86_400);
  hour = second / 3_600 % 24;
  minute = second / 60 % 60;
}
