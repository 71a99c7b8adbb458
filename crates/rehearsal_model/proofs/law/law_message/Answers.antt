use Rattle.rehearsal_model.proofs.ReachLemmas.{brings_input, comes_known, receiver_within}
use Rattle.rehearsal_model.proofs.law.law_message.Goals as goal

pub returns : goal.returns
returns c = record {
  host = λ hosts s n l lawful reach sent. receiver_within hosts lawful s reach n l sent;
  input = λ hosts s n l lawful reach sent. brings_input hosts lawful s reach n l sent;
  known = λ hosts s n l lawful reach sent none. comes_known hosts lawful s reach n l sent none;
}
