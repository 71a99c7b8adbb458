use Rattle.std.proofs.Common.{◌≡◌, Some, sym}
use Rattle.api_peer.specs.Ordered.{peer_named}
use Rattle.api_peer.proofs.WriteLemmas.{named_authority}
use Rattle.api_peer.proofs.order.send_order.Goals as goal

-- the peer that is found is one of them
pub write_order-requires-clause-authority : goal.write_order-requires-clause-authority
write_order-requires-clause-authority c =
    let here : Some c.in-Some.peer.now ≡ peer_named c.args.config.now.peers c.args.order.now.to = rw (c.as_slice.ensures, c.as_str.ensures) at c.in-Some.ensures in
    named_authority c.args.order.now.to c.args.config.now.peers c.in-Some.peer.now c.requires.authorities (sym here)
