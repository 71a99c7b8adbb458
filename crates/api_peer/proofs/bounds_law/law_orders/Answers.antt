use Rattle.api_peer.proofs.OrderLemmas.{orders_listed, orders_sent}
use Rattle.api_peer.proofs.bounds_law.law_orders.Goals as goal

pub returns : goal.returns
returns c = record { sent = orders_sent; bounds = orders_listed }
