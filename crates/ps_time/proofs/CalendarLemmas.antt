-- The date of a day, year by year and month by month, is the one with its number.
use Rattle.std.proofs.Common.{◌≡◌, ℕ, zero, suc, ◌+◌, ◌-◌, ◌*◌, ◌<◌, ◌≤◌, true, false, cond, ltb, refl, arith, lit≤, pos, ◌+ℤ◌}
use Rattle.jiff_core.specs.Calendar.{days_from_civil, days_in_month, days_in_year, days_of_months, day_count}
use Rattle.jiff_core.specs.Date.{epoch_day}
use Rattle.jiff_core.specs.declared.civil.date.Date.{Date}
use Rattle.jiff_core.proofs.CalendarLemmas.{day_count-epoch, days_from_civil-day_count, days_in_month_bounds, days_in_year_bounds, days_of_months-zero, days_of_months_more, days_of_months_all, day_count-next_year, day_count-next_month, day_count-day}
use Rattle.jiff_core.proofs.DateLemmas.{epoch_day_injective}
use Rattle.jiff_core.proofs.SignedLemmas.{signed_arith}
use Rattle.std.proofs.lemmas.Bool.Decides.{nat_tests}
use Rattle.ps_time.specs.Calendar.{year_after, month_after, date_of_day}

-- a year and a day in it, that lie so many days after the first of another year
pub record IsYearAfter (most year days : ℕ) (found : ℕ × ℕ) : Type 0 where
  pub inside : found.1 < days_in_year (pos found.0)
  pub from : year ≤ found.0
  pub to : found.0 ≤ year + most
  pub same : day_count (pos found.0) 1 1 + found.1 ≡ day_count (pos year) 1 1 + days

pub year_after_is : (most year days : ℕ) → days < 365 * (most + 1) → IsYearAfter most year days (year_after most year days)
unfolding year_after
year_after_is zero year days few = record {
  inside = omega (arith, days_in_year_bounds (pos year));
  from = omega arith;
  to = omega arith;
  same = refl;
}
year_after_is (suc most) year days few =
    let here = days_in_year (pos year) in
    let next = year_after most (year + 1) (days - here) in
    elim (ltb days here) as (λ b. ltb days here ≡ b → IsYearAfter (suc most) year days (cond b (year, days) next)) [
      | true ↦ λ is. record {
        inside = grind (arith, nat_tests);
        from = omega arith;
        to = omega arith;
        same = refl;
      }
      | false ↦ λ is. let past : here ≤ days = grind (arith, nat_tests) in
          let low = days_in_year_bounds (pos year) in
          let rest = year_after_is most (year + 1) (days - here) (omega (arith, low)) in
          let passed = day_count-next_year (pos year) (pos (year + 1)) (omega (arith, signed_arith)) (omega (arith, signed_arith)) in
          record {
            inside = rest.inside;
            from = omega (arith, rest.from);
            to = omega (arith, rest.to);
            same = omega (arith, rest.same, passed);
          }
    ] refl

-- a month and a day in it, from 0, that lie so many days after the first of another month of the year
pub record IsMonthAfter (year month days : ℕ) (found : ℕ × ℕ) : Type 0 where
  pub inside : found.1 < days_in_month (pos year) found.0
  pub from : month ≤ found.0
  pub to : found.0 ≤ 12
  pub same : day_count (pos year) found.0 1 + found.1 ≡ day_count (pos year) month 1 + days

pub month_after_is : (most year month days : ℕ) → 1 ≤ month → month + most ≡ 12 → days + days_of_months (pos year) (month - 1) < days_in_year (pos year) →
    IsMonthAfter year month days (month_after most year month days)
unfolding month_after
month_after_is zero year month days first last few = let twelve : month ≡ 12 = omega arith in
    record {
      inside = rw twelve (omega (arith, rw twelve at few, days_of_months_more (pos year) 12 (lit≤ tt), days_of_months_all (pos year)));
      from = omega arith;
      to = omega arith;
      same = refl;
    }
month_after_is (suc most) year month days first last few =
    let here = days_in_month (pos year) month in
    let next = month_after most year (month + 1) (days - here) in
    elim (ltb days here) as (λ b. ltb days here ≡ b → IsMonthAfter year month days (cond b (month, days) next)) [
      | true ↦ λ is. record {
        inside = grind (arith, nat_tests);
        from = omega arith;
        to = omega arith;
        same = refl;
      }
      | false ↦ λ is. let past : here ≤ days = grind (arith, nat_tests) in
          let back : month + 1 - 1 ≡ month = omega arith in
          let more = days_of_months_more (pos year) month first in
          let fewer : days - here + days_of_months (pos year) (month + 1 - 1) < days_in_year (pos year) = rw back (omega (arith, more)) in
          let rest = month_after_is most year (month + 1) (days - here) (omega arith) (omega arith) fewer in
          let passed = day_count-next_month (pos year) month first in
          record {
            inside = rest.inside;
            from = omega (arith, rest.from);
            to = rest.to;
            same = omega (arith, rest.same, passed);
          }
    ] refl

-- the date of a day is a date of the calendar, and has its number
pub record IsDateOfDay (n : ℕ) (date : ℕ × ℕ × ℕ) : Type 0 where
  pub from : 1970 ≤ date.0
  pub to : date.0 ≤ 2100
  pub month_from : 1 ≤ date.1
  pub month_to : date.1 ≤ 12
  pub day_from : 1 ≤ date.2
  pub day_to : date.2 ≤ days_in_month (pos date.0) date.1
  pub number : days_from_civil (pos date.0) date.1 date.2 ≡ pos n

pub date_of_day_is : (n : ℕ) → n ≤ 47_482 → IsDateOfDay n (date_of_day n)
unfolding date_of_day
date_of_day_is n few =
    let year = year_after_is 130 1970 n (omega arith) in
    let y = (year_after 130 1970 n).0 in
    let zero_months = days_of_months-zero (pos y) in
    let month = month_after_is 11 y 1 (year_after 130 1970 n).1 (lit≤ tt) refl (omega (arith, zero_months, year.inside)) in
    let m = month_after 11 y 1 (year_after 130 1970 n).1 in
    let count = day_count-day (pos y) m.0 (m.1 + 1) 1 (omega arith) (lit≤ tt) in
    record {
      from = year.from;
      to = year.to;
      month_from = month.from;
      month_to = month.to;
      day_from = omega arith;
      day_to = omega (arith, month.inside);
      number = omega (arith, signed_arith, days_from_civil-day_count (pos y) m.0 (m.1 + 1), count, month.same, year.same, day_count-epoch);
    }

-- a date with the number of a day has its parts
pub date_is : (d : Date) (n : ℕ) → n ≤ 47_482 → epoch_day d +ℤ pos 4_371_587 ≡ pos (n + 4_371_587) →
    (d.year ≡ pos (date_of_day n).0) × (d.month ≡ (date_of_day n).1) × (d.day ≡ (date_of_day n).2)
date_is d n few number =
    let is = date_of_day_is n few in
    let date = date_of_day n in
    let other : Date = record {
      year = pos date.0;
      month = date.1;
      day = date.2;
      year_in = (omega (arith, signed_arith), omega (arith, signed_arith, is.to));
      month_in = (is.month_from, is.month_to);
      day_in = (is.day_from, is.day_to);
    } in
    epoch_day_injective d other (omega (arith, signed_arith, number, is.number))

-- what its parts are below
pub record HasDigits (date : ℕ × ℕ × ℕ) : Type 0 where
  pub year_from : 1_000 ≤ date.0
  pub year_to : date.0 < 10_000
  pub month_to : date.1 < 100
  pub day_to : date.2 < 100

pub date_of_day_digits : (n : ℕ) → n ≤ 47_482 → HasDigits (date_of_day n)
date_of_day_digits n few =
    let is = date_of_day_is n few in
    record {
      year_from = omega (arith, is.from);
      year_to = omega (arith, is.to);
      month_to = omega (arith, is.month_to);
      day_to = omega (arith, is.day_to, days_in_month_bounds);
    }
