use Rattle.std.proofs.Common.{◌≡◌, drop}
use Rattle.host_model.specs.Propose.{find_peer}
use Rattle.host_inputs.proofs.participant.find_peer.Given as goal

-- what is left decides
abbrev pub invariant-loop-peer : goal.invariant-loop-peer
invariant-loop-peer l = find_peer l.peers l.number ≡ find_peer (drop l.peer-index l.peers) l.number
