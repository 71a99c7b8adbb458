use Rattle.api_peer.proofs.order.write_order.Goals as goal

pub returns-clause-carries : goal.returns-clause-carries
returns-clause-carries c = (
  c.args.peer.now,
  c.requires.peer,
  record { request = c.in-Some.request; is = c.in_ok-bytes.ensures; meant = (rw c.in-Some.is at c.in_ok-request.ensures.understood) c.args.peer.now c.requires.peer },
)
