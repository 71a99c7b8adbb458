use Rattle.api_peer.proofs.OrderLemmas.{orders_bound}
use Rattle.api_peer.proofs.bounds_law.law_bounds.Goals as goal

pub returns : goal.returns
returns c = orders_bound
