use Rattle.std.proofs.Common.{◌/◌, arith}
use Rattle.ps_time.proofs.CalendarLemmas.{date_of_day_digits}
use Rattle.ps_time.proofs.moment_text.day_text.Goals as goal

pub invariant_of-date : goal.invariant_of-date
invariant_of-date c =
    let digits = date_of_day_digits (c.args.moment / 86_400) (omega arith) in
    record { in_bounds = rw c.date_of-year.ensures (digits.year_from, digits.year_to, digits.month_to, digits.day_to) }
