use Rattle.std.proofs.Common.{◌≡◌, ◌∙◌, Some, subst}
use Rattle.host_model.specs.declared.config.Peer.{Peer}
use Rattle.api_peer.specs.Meant.{IsMeant}
use Rattle.api_peer.specs.Ordered.{mark_for, peer_named}
use Rattle.api_peer.proofs.request.order_request.Goals as goal

some_same : (x y : Peer) → Some x ≡ Some y → x ≡ y
some_same x y is = cc

-- there is one peer of a name
pub returns-clause-understood : goal.returns-clause-understood
returns-clause-understood c = λ p found.
    let self = c.args.config.now in
    let order = c.args.order.now in
    let here : Some c.in-Some.peer.now ≡ peer_named self.peers order.to = rw (c.as_slice.ensures, c.as_str.ensures) at c.in-Some.ensures in
    subst (λ (x : Peer). IsMeant (mark_for self x) order.key order.body c.in_ok-request_by.field-0) (some_same c.in-Some.peer.now p (here ∙ found)) c.in_ok-request_by.ensures.meant
