use Rattle.result_keeper.proofs.OpenLemmas.{taken}
use Rattle.result_keeper.proofs.opening.take_table.Goals as goal

pub returns-in-Ok-true-clause-table : goal.returns-in-Ok-true-clause-table
returns-in-Ok-true-clause-table g c begun clean = taken _ _ c.requires begun clean (c.in-Ok-true.ensures.same clean) (c.in-Ok-true.ensures.records clean c.in-Ok-true.field-0-test)
