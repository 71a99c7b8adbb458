use Rattle.host_input_trials.proofs.GivenLemmas.{config_is}
use Rattle.host_input_trials.proofs.config.config_with.Goals as goal

pub returns : goal.returns
returns c = config_is c.args.limits c.in_ok-name.name c.no_text.result c.in_ok-peers.peers c.in_ok-installed.installed c.requires c.in_ok-name.ensures c.no_text.ensures c.in_ok-peers.ensures c.in_ok-installed.ensures
