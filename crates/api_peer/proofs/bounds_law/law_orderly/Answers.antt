use Rattle.api_peer.proofs.InputLemmas.{understood_sized}
use Rattle.api_peer.proofs.OrderlyChanges.{empty_orderly}
use Rattle.api_peer.proofs.OrderlySteps.{step_orderly}
use Rattle.api_peer.proofs.bounds_law.law_orderly.Goals as goal

pub returns : goal.returns
returns c = record { empty = empty_orderly; step = step_orderly; input = understood_sized }
