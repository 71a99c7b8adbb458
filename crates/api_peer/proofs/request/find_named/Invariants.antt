use Rattle.std.proofs.Common.{◌≡◌, drop}
use Rattle.api_peer.specs.Ordered.{peer_named}
use Rattle.api_peer.proofs.request.find_named.Given as goal

-- what is left decides
abbrev pub invariant-loop-peer : goal.invariant-loop-peer
invariant-loop-peer l = peer_named (drop l.peer-index l.peers) l.name ≡ peer_named l.peers l.name
