use Rattle.lead_orders.proofs.DueLemmas.{order_listed}
use Rattle.lead_orders.proofs.laws.law_order.Goals as goal

pub returns : goal.returns
returns c = order_listed
