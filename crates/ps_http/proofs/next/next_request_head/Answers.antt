use Rattle.std.proofs.Common.{◌<◌, length, ap, arith}
use Rattle.std.proofs.lemmas.Bool.Decides.{nat_tests}
use Rattle.ps_http.specs.Answer.{requests}
use Rattle.ps_http.proofs.KindLemmas.{lawful_requests}
use Rattle.ps_http.proofs.NextLemmas.{looked_at, has_head, fault_at_head, has_byte, begun}
use Rattle.ps_http.proofs.next.next_request_head.Goals as goal

pub returns-in-Ok-request_head-clause-head : goal.returns-in-Ok-request_head-clause-head
returns-in-Ok-request_head-clause-head g c =
    let looked = looked_at requests lawful_requests c.args.limits c.collect.new.held c.as_slice-bytes.result.now c.min.result c.as_slice-bytes.ensures c.min.ensures in
    has_head requests lawful_requests c.args.limits _ _ _ _ c.collect.new.held _ _ _ c.in-Ok.ensures.ok looked c.in-Ok-request_head.ensures.ok

pub returns-in-Err-clause-err : goal.returns-in-Err-clause-err
returns-in-Err-clause-err g c =
    let looked = looked_at requests lawful_requests c.args.limits c.collect.new.held c.as_slice-bytes.result.now c.min.result c.as_slice-bytes.ensures c.min.ensures in
    fault_at_head requests lawful_requests c.args.limits c.in-Err.fault _ c.collect.new.held _ _ _ c.in-Ok.ensures.ok looked c.in-Err.ensures.err

pub returns-in-Ok-request_head-clause-some : goal.returns-in-Ok-request_head-clause-some
returns-in-Ok-request_head-clause-some g c =
    let some : 0 < length c.as_slice-bytes.result.now = grind (arith, nat_tests, c.is_empty.ensures, c.if-is_empty.false) in
    has_byte _ c.collect.new.held _ _ c.in-Ok.ensures.ok.0 (omega (arith, some, ap length c.as_slice-bytes.ensures))

pub returns-in-Err-clause-begun : goal.returns-in-Err-clause-begun
returns-in-Err-clause-begun g c =
    let some : 0 < length c.as_slice-bytes.result.now = grind (arith, nat_tests, c.is_empty.ensures, c.if-is_empty.false) in
    begun c.in-Err.fault _ (has_byte _ c.collect.new.held _ _ c.in-Ok.ensures.ok.0 (omega (arith, some, ap length c.as_slice-bytes.ensures)))
