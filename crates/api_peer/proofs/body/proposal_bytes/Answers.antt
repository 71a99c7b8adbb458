use Rattle.api_body.specs.Bodies.{proposal_of}
use Rattle.api_input.specs.Understood.{most_texts}
use Rattle.api_peer.proofs.BodyLemmas.{read_all}
use Rattle.api_peer.proofs.WholeLemmas.{proposal_flat, proposal_whole}
use Rattle.api_peer.specs.Meant.{IsProposable}
use Rattle.api_reply.specs.Denials.{proposal_data}
use Rattle.serde_json.specs.View.{view}
use Rattle.api_peer.proofs.body.proposal_bytes.Goals as goal

pub body_bytes-requires : goal.body_bytes-requires
body_bytes-requires c = rw c.in_ok-value.ensures.tree (proposal_whole c.args.proposal.now)

pub returns-clause-reads : goal.returns-clause-reads
returns-clause-reads c =
    let p = c.args.proposal.now in
    read_all (λ name. IsProposable name p) (proposal_of most_texts) p (view c.in_ok-value.value) (proposal_data p) c.body_bytes.result c.in_ok-value.ensures.tree (proposal_flat p) c.body_bytes.ensures.text c.body_bytes.ensures.reads c.in_ok-value.ensures.reads
