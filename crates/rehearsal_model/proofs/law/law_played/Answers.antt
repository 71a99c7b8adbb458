use Rattle.rehearsal_model.proofs.ActionLemmas.{first_on, line_on}
use Rattle.rehearsal_model.proofs.ReachLemmas.{safe}
use Rattle.rehearsal_model.proofs.law.law_played.Goals as goal
use Rattle.rehearsal_model.specs.Simulations.{show_by}

pub returns : goal.returns
returns c = record {
  first = first_on;
  line = λ comes hosts p line lawful is law may. line_on comes hosts lawful p is line law may;
  safe = λ hosts p turns lawful is. safe hosts lawful (show_by turns p) (is.reaches turns);
}
