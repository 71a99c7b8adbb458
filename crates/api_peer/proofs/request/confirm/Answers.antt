use Rattle.host_model.specs.declared.order.OrderBody.TheVariants.{Confirm}
use Rattle.api_peer.proofs.MeantLemmas.{confirm_meant, of_same}
use Rattle.api_peer.specs.Meant.{IsMeant}
use Rattle.api_peer.specs.Ordered.{mark_for, request_by}
use Rattle.api_peer.proofs.request.confirm.Goals as goal

pub returns-clause-request : goal.returns-clause-request
returns-clause-request c = rw (c.in_ok-path.ensures.text, c.new.ensures) at c.ask.ensures

pub returns-clause-meant : goal.returns-clause-meant
returns-clause-meant c =
    let self = c.args.config.now in
    let peer = c.args.peer.now in
    let made = rw (c.in_ok-path.ensures.text, c.new.ensures) at c.ask.ensures in
    of_same (IsMeant (mark_for self peer) c.args.key Confirm) c.ask.result (request_by (mark_for self peer) c.args.key Confirm) made (confirm_meant (mark_for self peer) c.args.key c.in_ok-path.ensures.reads)
