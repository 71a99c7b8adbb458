use Rattle.host_model.specs.declared.order.OrderBody.TheVariants.{Material}
use Rattle.api_peer.proofs.MeantLemmas.{material_meant, of_same}
use Rattle.api_peer.specs.Meant.{IsMeant}
use Rattle.api_peer.specs.Ordered.{mark_for, request_by}
use Rattle.api_peer.proofs.request.hand_over.Goals as goal

pub returns-clause-meant : goal.returns-clause-meant
returns-clause-meant c =
    let self = c.args.config.now in
    let peer = c.args.peer.now in
    let body = Material c.args.text.now in
    let made = rw (c.in_ok-path.ensures.text, c.in_ok-body.ensures.text) at c.ask.ensures in
    of_same (IsMeant (mark_for self peer) c.args.key body) c.ask.result (request_by (mark_for self peer) c.args.key body) made (material_meant (mark_for self peer) c.args.key c.in_ok-path.ensures.reads c.args.text.now c.in_ok-body.ensures.reads)
