use Rattle.rehearsal_model.proofs.ReachLemmas.{replied_so}
use Rattle.rehearsal_model.proofs.law.law_replied.Goals as goal

pub returns : goal.returns
returns c = λ hosts s n l clock lawful reach sent none low widths. replied_so hosts lawful s reach n l sent none clock low widths
