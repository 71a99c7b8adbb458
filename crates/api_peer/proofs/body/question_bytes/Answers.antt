use Rattle.serde_json.specs.View.{view}
use Rattle.api_body.specs.Bodies.{question_of}
use Rattle.api_peer.proofs.BodyLemmas.{read_if}
use Rattle.api_peer.proofs.WholeLemmas.{question_flat, question_whole}
use Rattle.api_peer.specs.Meant.{IsAskable}
use Rattle.api_peer.specs.Ordered.{question_data}
use Rattle.api_peer.proofs.body.question_bytes.Goals as goal

pub body_bytes-requires : goal.body_bytes-requires
body_bytes-requires c = rw c.in_ok-value.ensures.tree (question_whole c.args.question.now)

pub returns-clause-reads : goal.returns-clause-reads
returns-clause-reads c =
    let q = c.args.question.now in
    read_if (IsAskable q.window) question_of q (view c.in_ok-value.value) (question_data q) c.body_bytes.result c.in_ok-value.ensures.tree (question_flat q) c.body_bytes.ensures.text c.body_bytes.ensures.reads c.in_ok-value.ensures.reads
