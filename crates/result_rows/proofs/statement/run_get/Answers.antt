use Rattle.std.proofs.Common.{arith}
use Rattle.result_rows.proofs.statement.run_get.Goals as goal

pub returns-clause-clean : goal.returns-clause-clean
returns-clause-clean g c clean = omega (arith, c.query_all.ensures.survives.clean, clean)
