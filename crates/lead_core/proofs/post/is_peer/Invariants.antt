use Rattle.std.proofs.Common.{◌≡◌, drop, map}
use Rattle.plugin_core.specs.Participants.{is_named}
use Rattle.lead_core.proofs.post.is_peer.Given as goal

-- what is left decides
abbrev pub invariant-loop-peer : goal.invariant-loop-peer
invariant-loop-peer l = is_named l.name (map (λ p. p.name) l.peers) ≡ is_named l.name (map (λ p. p.name) (drop l.peer-index l.peers))
