use Rattle.plugin_core.proofs.KindLemmas.{every_kind}
use Rattle.plugin_core.proofs.kind.kinds.Goals as goal

pub returns-clause-every : goal.returns-clause-every
returns-clause-every c = every_kind
