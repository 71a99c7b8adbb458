use Rattle.rehearsal_model.proofs.ReachLemmas.{config_is, script_peers}
use Rattle.rehearsal_model.proofs.law.law_config.Goals as goal

pub returns : goal.returns
returns c = record {
  config = λ hosts s place lawful reach within. config_is hosts lawful s reach place within;
  peers = λ hosts s place lawful reach within. script_peers hosts lawful s reach place within;
}
