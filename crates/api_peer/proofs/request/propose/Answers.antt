use Rattle.host_model.specs.declared.order.OrderBody.TheVariants.{Propose}
use Rattle.api_peer.proofs.MeantLemmas.{propose_meant, of_same}
use Rattle.api_peer.specs.Meant.{IsMeant}
use Rattle.api_peer.specs.Ordered.{mark_for, request_by}
use Rattle.api_peer.proofs.request.propose.Goals as goal

pub returns-clause-meant : goal.returns-clause-meant
returns-clause-meant c =
    let self = c.args.config.now in
    let peer = c.args.peer.now in
    let body = Propose c.args.proposal.now in
    let made = rw (c.in_ok-path.ensures, c.in_ok-body.ensures.text) at c.ask.ensures in
    of_same (IsMeant (mark_for self peer) c.args.key body) c.ask.result (request_by (mark_for self peer) c.args.key body) made (propose_meant (mark_for self peer) c.args.key c.args.proposal.now c.in_ok-body.ensures.reads)
