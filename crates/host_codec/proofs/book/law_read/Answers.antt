use Rattle.host_codec.proofs.ReadLemmas.{row_tests}
use Rattle.host_codec.proofs.book.law_read.Goals as goal

pub returns-clause-rows : goal.returns-clause-rows
returns-clause-rows c = row_tests

pub returns-clause-tasks : goal.returns-clause-tasks
returns-clause-tasks c = λ t fits. fits.task
