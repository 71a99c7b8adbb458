use Rattle.result_rows.proofs.StateLemmas.{creates_on}
use Rattle.result_rows.proofs.statement.create_table.Goals as goal

pub returns-clause-made : goal.returns-clause-made
returns-clause-made g c empty clean = creates_on _ _ _ empty clean (c.run_create.ensures.runs clean)
