use Rattle.lead_orders.proofs.DueLemmas.{confirmed_by_last}
use Rattle.lead_orders.proofs.laws.law_confirm.Goals as goal

pub returns : goal.returns
returns c = confirmed_by_last
