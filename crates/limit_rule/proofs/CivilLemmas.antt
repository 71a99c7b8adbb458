-- The month and the day of a day of the calendar are those of the date with its number.
use Rattle.std.proofs.Common.{◌≡◌, ℕ, ◌+◌, ◌%◌, ◌<◌, refl, arith, lit≤, pos}
use Rattle.jiff_core.specs.Calendar.{weekday_number}
use Rattle.jiff_core.specs.Date.{epoch_day}
use Rattle.jiff_core.specs.declared.civil.date.Date.{Date}
use Rattle.jiff_core.proofs.CalendarLemmas.{day_count-epoch, days_from_civil-day_count, days_of_months-zero, day_count-day, weekday_number-parts}
use Rattle.jiff_core.proofs.DateLemmas.{epoch_day_injective}
use Rattle.jiff_core.proofs.SignedLemmas.{signed_arith}
use Rattle.ps_time.specs.Calendar.{year_after, month_after}
use Rattle.ps_time.proofs.CalendarLemmas.{year_after_is, month_after_is}
use Rattle.limit_rule.specs.Civil.{month_day_of, weekday_of}

-- the date with the number of a day of the first 400 years has its month and its place there
pub month_day_is : (d : Date) (n : ℕ) → epoch_day d ≡ pos (n % 146_097) → (d.month ≡ (month_day_of n).0) × (d.day ≡ (month_day_of n).1)
unfolding month_day_of
month_day_is d n number =
    let r = n % 146_097 in
    let few : r < 146_097 = omega arith in
    let year = year_after_is 400 1970 r (omega (arith, few)) in
    let y = (year_after 400 1970 r).0 in
    let zero_months = days_of_months-zero (pos y) in
    let month = month_after_is 11 y 1 (year_after 400 1970 r).1 (lit≤ tt) refl (omega (arith, zero_months, year.inside)) in
    let m = month_after 11 y 1 (year_after 400 1970 r).1 in
    let count = day_count-day (pos y) m.0 (m.1 + 1) 1 (omega arith) (lit≤ tt) in
    let other : Date = record {
      year = pos y;
      month = m.0;
      day = m.1 + 1;
      year_in = (omega (arith, signed_arith), omega (arith, signed_arith, year.to));
      month_in = (month.from, month.to);
      day_in = (omega arith, omega (arith, month.inside));
    } in
    let is = epoch_day_injective d other (omega (arith, signed_arith, number, days_from_civil-day_count (pos y) m.0 (m.1 + 1), count, month.same, year.same, day_count-epoch)) in
    (is.1, is.2)

-- 400 years are whole weeks
pub weekday_is : (n : ℕ) → weekday_number (pos (n % 146_097)) + 1 ≡ weekday_of n
weekday_is n = omega (arith, signed_arith, weekday_number-parts (pos (n % 146_097)))
