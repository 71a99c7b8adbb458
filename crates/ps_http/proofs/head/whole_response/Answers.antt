use Rattle.std.proofs.Common.{map, true}
use Rattle.httparse.specs.Spans.{name_and_value}
use Rattle.ps_http.specs.Answer.{responses}
use Rattle.ps_http.proofs.HeadLemmas.{body_length_fits, refused_or, headed}
use Rattle.ps_http.proofs.KindLemmas.{lawful_responses}
use Rattle.ps_http.proofs.head.whole_response.Goals as goal

pub returns-in-Err-clause-err : goal.returns-in-Err-clause-err
returns-in-Err-clause-err c =
    refused_or responses c.args.limits c.args.bytes.now c.args.head.len c.in-Err.fault
    (λ h. body_length_fits c.args.limits true true (map name_and_value h.fields)) c.in-Err.ensures

pub returns-in-Ok-response_without_body-clause-ok : goal.returns-in-Ok-response_without_body-clause-ok
returns-in-Ok-response_without_body-clause-ok c =
    headed responses lawful_responses c.args.limits c.args.bytes.now c.in-Ok-response_without_body.message c.args.head.len c.in-Ok.length
    c.in-Ok.ensures c.in-Ok-response_without_body.ensures
