use Rattle.api_peer.proofs.SendLemmas.{order_sent}
use Rattle.api_peer.proofs.bounds_law.law_request.Goals as goal

pub returns : goal.returns
returns c = order_sent
