use Rattle.std.proofs.Common.{◌≡◌, refl, arith, FitsSigned, w16, ap, ◌∙◌, nat_abs}
use Rattle.std.proofs.lemmas.Int.{to_z-of_z, ints}
use Rattle.ps_time.specs.Calendar.{date_of_day}
use Rattle.ps_time.proofs.CalendarLemmas.{date_is, date_of_day_is}
use Rattle.ps_time.proofs.calendar.date_of.Goals as goal

pub returns : goal.returns
returns c =
    let found = c.from_days_since_min-date.result in
    let is = date_is found c.args.day c.requires c.from_days_since_min-date.ensures in
    let fits : FitsSigned w16 found.year = rw is.0 (omega (arith, ints, (date_of_day_is c.args.day c.requires).to)) in
    let year : c.unsigned_abs-year.result ≡ (date_of_day c.args.day).0 = c.unsigned_abs-year.ensures.value ∙ ap nat_abs (to_z-of_z w16 found.year fits ∙ is.0) in
    rw (c.from.ensures, c.from-2.ensures, c.from-3.ensures, year, is.1, is.2) refl
