use Rattle.std.proofs.Common.{refl}
use Rattle.limit_rule.proofs.CivilLemmas.{month_day_is}
use Rattle.limit_rule.proofs.civil.month_day.Goals as goal

pub returns : goal.returns
returns c = let is = month_day_is c.day_of_cycle-date.result c.args.day c.day_of_cycle-date.ensures in
    rw (c.from.ensures, c.from-2.ensures, is.0, is.1) refl
