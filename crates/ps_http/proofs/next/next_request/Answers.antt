use Rattle.std.proofs.Common.{◌∙◌, ap}
use Rattle.ps_http.specs.Answer.{requests}
use Rattle.ps_http.specs.declared.message.Request.{Request}
use Rattle.ps_http.proofs.AnswerLemmas.{takes}
use Rattle.ps_http.proofs.EnoughLemmas.{message_enough}
use Rattle.ps_http.proofs.HeadLemmas.{request_taken}
use Rattle.ps_http.proofs.KindLemmas.{lawful_requests}
use Rattle.ps_http.proofs.NextLemmas.{fault_at_body, begun}
use Rattle.ps_http.proofs.next.next_request.Goals as goal

pub returns-in-Ok-clause-message : goal.returns-in-Ok-clause-message
returns-in-Ok-clause-message g c =
    let h = rw c.in-Ok-Some.field-0-is at c.in-Ok-Some.ensures.head in
    takes requests lawful_requests c.args.limits c.next_request_head.new.held _ _ _ _ _ _ _ _ _ h.added h.headed c.in-Ok.ensures.ok c.with_request_body.result
    (c.with_request_body.ensures ∙ ap (λ (r : Request). record r { body = c.in-Ok.body.items }) h.headed.message_is)

pub returns-in-Err-read_body-clause-err : goal.returns-in-Err-read_body-clause-err
returns-in-Err-read_body-clause-err g c =
    let h = rw c.in-Ok-Some.field-0-is at c.in-Ok-Some.ensures.head in
    fault_at_body requests lawful_requests c.args.limits _ _ _ c.in-Err-read_body.fault _ _ _ _ _ _ h c.in-Err-read_body.ensures.err

pub returns-in-Err-read_body-clause-begun : goal.returns-in-Err-read_body-clause-begun
returns-in-Err-read_body-clause-begun g c =
    begun c.in-Err-read_body.fault _ (rw c.in-Ok-Some.field-0-is at c.in-Ok-Some.ensures.some)

pub returns-in-Ok-clause-enough : goal.returns-in-Ok-clause-enough
returns-in-Ok-clause-enough g c =
    message_enough requests lawful_requests c.args.limits _ _ _ _ _ _ _ _ _ _ (rw c.in-Ok-Some.field-0-is at c.in-Ok-Some.ensures.head) c.in-Ok.ensures.ok

pub returns-in-Ok-clause-body : goal.returns-in-Ok-clause-body
returns-in-Ok-clause-body g c = request_taken c.args.limits _ _ _ (returns-in-Ok-clause-message g c)
