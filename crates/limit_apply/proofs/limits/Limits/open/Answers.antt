use Rattle.limit_apply.proofs.OpenLemmas.{open_made}
use Rattle.limit_apply.proofs.limits.Limits.open.Goals as goal

pub returns : goal.returns
returns c = open_made _ c.read_kept.ensures
