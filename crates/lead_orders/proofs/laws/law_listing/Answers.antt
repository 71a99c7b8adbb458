use Rattle.lead_orders.proofs.FirstLemmas.{first_orders, listed_due_orders}
use Rattle.lead_orders.proofs.laws.law_listing.Goals as goal

pub returns-clause-due : goal.returns-clause-due
returns-clause-due c = listed_due_orders

pub returns-clause-first : goal.returns-clause-first
returns-clause-first c = first_orders
