use Rattle.std.proofs.Common.{◌≡◌, ◌∙◌, false, sym}
use Rattle.api_peer.specs.Texts.{orders_texts}
use Rattle.api_peer.proofs.OrderBounds.{order_short}
use Rattle.api_peer.proofs.order.is_short.Goals as goal

-- what tells no such texts is short
pub returns-clause-short : goal.returns-clause-short
returns-clause-short c = λ yes.
    let known : orders_texts c.args.order.now.body ≡ false = sym c.orders_texts.ensures ∙ c.if-orders_texts.false in
    order_short c.args.config.now c.args.order.now c.args.request.now c.requires.order c.order_width.ensures known c.requires.request
