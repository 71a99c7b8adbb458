use Rattle.std.proofs.Common.{arith, refl, subst, sym}
use Rattle.ps_http.specs.Answer.{responses}
use Rattle.ps_http.specs.Head.{IsHeaded, HeadFault}
use Rattle.ps_http.specs.Reply.{IsReplyFault}
use Rattle.ps_http.proofs.AnswerLemmas.{head_held}
use Rattle.ps_http.proofs.KindLemmas.{lawful_responses}
use Rattle.ps_http.proofs.NextLemmas.{looked_at}
use Rattle.ps_http.proofs.WholeLemmas.{head_fault}
use Rattle.ps_http.proofs.reply.read_reply.Goals as goal

pub with_body-requires-clause-headed : goal.with_body-requires-clause-headed
with_body-requires-clause-headed c =
    let looked = looked_at responses lawful_responses c.args.limits c.args.bytes.now c.args.bytes.now c.min.result refl c.min.ensures in
    subst (λ f. IsHeaded responses c.args.limits f c.in-Ok.head.message c.in-Ok.head.size c.in-Ok.head.length) looked c.in-Ok.ensures.ok

pub with_body-requires-clause-fits : goal.with_body-requires-clause-fits
with_body-requires-clause-fits c =
    let h = with_body-requires-clause-headed c in
    omega (arith, h.size_is, head_held responses lawful_responses c.args.limits c.args.bytes.now h.head h.rest h.reads)

pub returns-in-Err-clause-fault : goal.returns-in-Err-clause-fault
returns-in-Err-clause-fault c =
    let looked = looked_at responses lawful_responses c.args.limits c.args.bytes.now c.args.bytes.now c.min.result refl c.min.ensures in
    subst (IsReplyFault c.args.limits c.args.bytes.now) (sym c.refused.ensures)
    (head_fault c.args.limits c.args.bytes.now c.in-Err.fault (subst (λ l. HeadFault responses c.args.limits l c.in-Err.fault) looked c.in-Err.ensures.err))
