use Rattle.ps_http.specs.Answer.{responses}
use Rattle.ps_http.proofs.KindLemmas.{lawful_responses}
use Rattle.ps_http.proofs.NextLemmas.{looked_at, has_head, fault_at_head}
use Rattle.ps_http.proofs.next.next_response_head.Goals as goal

pub returns-in-Ok-response_head-clause-head : goal.returns-in-Ok-response_head-clause-head
returns-in-Ok-response_head-clause-head g c =
    let looked = looked_at responses lawful_responses c.args.limits c.collect.new.held c.as_slice-bytes.result.now c.min.result c.as_slice-bytes.ensures c.min.ensures in
    has_head responses lawful_responses c.args.limits _ _ _ _ c.collect.new.held _ _ _ c.in-Ok.ensures.ok looked c.in-Ok-response_head.ensures.ok

pub returns-in-Err-clause-err : goal.returns-in-Err-clause-err
returns-in-Err-clause-err g c =
    let looked = looked_at responses lawful_responses c.args.limits c.collect.new.held c.as_slice-bytes.result.now c.min.result c.as_slice-bytes.ensures c.min.ensures in
    fault_at_head responses lawful_responses c.args.limits c.in-Err.fault _ c.collect.new.held _ _ _ c.in-Ok.ensures.ok looked c.in-Err.ensures.err
