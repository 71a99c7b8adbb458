use Rattle.std.proofs.Common.{arith}
use Rattle.result_rows.proofs.statement.run_create.Goals as goal

pub returns-clause-clean : goal.returns-clause-clean
returns-clause-clean g c clean = omega (arith, c.execute.ensures.survives.clean, clean)
