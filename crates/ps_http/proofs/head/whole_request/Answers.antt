use Rattle.std.proofs.Common.{map}
use Rattle.httparse.specs.Spans.{name_and_value}
use Rattle.ps_http.specs.Answer.{requests}
use Rattle.ps_http.specs.Message.{fits_request, wants_length}
use Rattle.ps_http.proofs.HeadLemmas.{body_length_fits, refused_or, headed}
use Rattle.ps_http.proofs.KindLemmas.{lawful_requests}
use Rattle.ps_http.proofs.head.whole_request.Goals as goal

pub returns-in-Err-clause-err : goal.returns-in-Err-clause-err
returns-in-Err-clause-err c =
    refused_or requests c.args.limits c.args.bytes.now c.args.head.len c.in-Err.fault
    (λ h. body_length_fits c.args.limits (fits_request h.minor h.target (map name_and_value h.fields)) (wants_length h.method) (map name_and_value h.fields))
    c.in-Err.ensures

pub returns-in-Ok-request_without_body-clause-ok : goal.returns-in-Ok-request_without_body-clause-ok
returns-in-Ok-request_without_body-clause-ok c =
    headed requests lawful_requests c.args.limits c.args.bytes.now c.in-Ok-request_without_body.message c.args.head.len c.in-Ok.length
    c.in-Ok.ensures c.in-Ok-request_without_body.ensures
