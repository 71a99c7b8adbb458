use Rattle.std.proofs.Common.{arith}
use Rattle.jiff_core.proofs.SignedLemmas.{signed_arith}
use Rattle.limit_rule.proofs.civil.day_of_cycle.Goals as goal

pub returns : goal.returns
returns c = omega (arith, signed_arith, c.from_days_since_min.ensures)
