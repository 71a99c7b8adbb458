-- Known values, computed from the definitions.
use Rattle.std.proofs.Common.{◌≡◌, Ok, Err, refl, codes}
use Rattle.jiff_core.specs.Calendar.{days_from_civil, day_count, days_of_years, days_of_months}
use Rattle.ps_time.specs.declared.moment.Round.TheVariants.{Up, Down}
use Rattle.ps_time.specs.declared.moment.TimeFault.TheVariants.{Syntax, CalendarUnit, Range}
use Rattle.ps_time.specs.Calendar.{date_of_day, year_after, month_after}
use Rattle.ps_time.specs.Length.{count_at, seconds_at, days_at, clock_at, amount_of, length_of, length_text_of}
use Rattle.ps_time.specs.Moment.{seconds_at as clock_seconds_at, offset_of, stamp_of, moment_of, moment_text_of}
use Rattle.ps_time.specs.Picture.{begins_as, leading_number, fraction_at}
use Rattle.ps_time.specs.Start.{start_of}
use Rattle.std.specs.Fmt.{digits}

pub known_lengths :
    (length_of (codes "PT1M") ≡ Ok 60)
    × (length_of (codes "PT0.5S") ≡ Ok 1)
    × (length_of (codes "P1W2DT3H4M5,000S") ≡ Ok 788_645)
    × (length_of (codes "PT1234567890S") ≡ Err Syntax)
    × (length_of (codes "PT") ≡ Err Syntax)
    × (length_of (codes "PT1S1M") ≡ Err Syntax)
    × (length_of (codes "P1M") ≡ Err CalendarUnit)
    × (length_of (codes "P400000000D") ≡ Err Range)
unfolding length_of count_at seconds_at days_at clock_at amount_of leading_number fraction_at begins_as
known_lengths = (refl, refl, refl, refl, refl, refl, refl, refl)

pub known_starts :
    (start_of 7_201 (codes "@PT1H") ≡ Ok 10_800)
    × (start_of 7_200 (codes "PT10M") ≡ Ok 7_800)
    × (start_of 0 (codes "@PT0S") ≡ Err Range)
unfolding start_of length_of count_at seconds_at days_at clock_at amount_of leading_number fraction_at begins_as
known_starts = (refl, refl, refl)

pub known_texts :
    (moment_text_of 1_007 ≡ codes "1970-01-01T00:16:47Z")
    × (moment_text_of 4_102_444_800 ≡ codes "2100-01-01T00:00:00Z")
    × (moment_text_of 951_827_696 ≡ codes "2000-02-29T12:34:56Z")
    × (length_text_of 90_061 ≡ codes "P1DT1H1M1S")
unfolding moment_text_of length_text_of date_of_day year_after month_after digits
known_texts = (refl, refl, refl, refl)

pub known_moments :
    (moment_of Up (codes "1970-01-01T02:00:00.5+01:00") ≡ Ok 3_601)
    × (moment_of Down (codes "1970-01-01T02:00:00.5+01:00") ≡ Ok 3_600)
    × (moment_of Up (codes "1970-02-29T00:00:00Z") ≡ Err Range)
    × (moment_of Up (codes "1970-01-01T00:00:60Z") ≡ Err Range)
    × (moment_of Up (codes "1970-01-01") ≡ Err Syntax)
unfolding moment_of clock_seconds_at offset_of stamp_of leading_number fraction_at begins_as days_from_civil day_count days_of_years days_of_months
known_moments = (refl, refl, refl, refl, refl)
