use Rattle.result_table.proofs.StoredLemmas.{all_stored}
use Rattle.result_table.proofs.law.law_stored.Goals as goal

pub returns : goal.returns
returns c = all_stored
