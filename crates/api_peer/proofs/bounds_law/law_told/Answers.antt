use Rattle.api_peer.proofs.ToldChanges.{empty_told}
use Rattle.api_peer.proofs.ToldSteps.{step_told}
use Rattle.api_peer.proofs.bounds_law.law_told.Goals as goal

pub returns : goal.returns
returns c = record { empty = empty_told; step = step_told }
