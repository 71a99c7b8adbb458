use Rattle.limit_rule.proofs.CivilLemmas.{weekday_is}
use Rattle.limit_rule.proofs.civil.weekday.Goals as goal

pub returns : goal.returns
returns c = rw (c.from.ensures, c.index.ensures.value, c.weekday.ensures, c.day_of_cycle.ensures) (weekday_is c.args.day)
