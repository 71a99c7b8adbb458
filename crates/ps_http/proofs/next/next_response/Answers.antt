use Rattle.std.proofs.Common.{◌∙◌, ap}
use Rattle.ps_http.specs.Answer.{responses}
use Rattle.ps_http.specs.declared.message.Response.{Response}
use Rattle.ps_http.proofs.AnswerLemmas.{takes}
use Rattle.ps_http.proofs.EnoughLemmas.{message_enough}
use Rattle.ps_http.proofs.HeadLemmas.{response_taken}
use Rattle.ps_http.proofs.KindLemmas.{lawful_responses}
use Rattle.ps_http.proofs.NextLemmas.{fault_at_body}
use Rattle.ps_http.proofs.next.next_response.Goals as goal

pub returns-in-Ok-read_body-clause-message : goal.returns-in-Ok-read_body-clause-message
returns-in-Ok-read_body-clause-message g c =
    let h = c.in-Ok.ensures.head in
    takes responses lawful_responses c.args.limits c.next_response_head.new.held _ _ _ _ _ _ _ _ _ h.added h.headed c.in-Ok-read_body.ensures.ok c.with_response_body.result
    (c.with_response_body.ensures ∙ ap (λ (r : Response). record r { body = c.in-Ok-read_body.body.items }) h.headed.message_is)

pub returns-in-Err-read_body-clause-err : goal.returns-in-Err-read_body-clause-err
returns-in-Err-read_body-clause-err g c =
    let h = c.in-Ok.ensures.head in
    fault_at_body responses lawful_responses c.args.limits _ _ _ c.in-Err-read_body.fault _ _ _ _ _ _ h c.in-Err-read_body.ensures.err

pub returns-in-Ok-read_body-clause-enough : goal.returns-in-Ok-read_body-clause-enough
returns-in-Ok-read_body-clause-enough g c =
    message_enough responses lawful_responses c.args.limits _ _ _ _ _ _ _ _ _ _ c.in-Ok.ensures.head c.in-Ok-read_body.ensures.ok

pub returns-in-Ok-read_body-clause-body : goal.returns-in-Ok-read_body-clause-body
returns-in-Ok-read_body-clause-body g c = response_taken c.args.limits _ _ _ (returns-in-Ok-read_body-clause-message g c)
