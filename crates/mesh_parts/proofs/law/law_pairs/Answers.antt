use Rattle.mesh_parts.proofs.PairLemmas.{members, order}
use Rattle.mesh_parts.proofs.law.law_pairs.Goals as goal

pub returns-clause-members : goal.returns-clause-members
returns-clause-members c = members

pub returns-clause-order : goal.returns-clause-order
returns-clause-order c = order
