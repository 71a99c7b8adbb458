use Rattle.std.proofs.Common.{◌∙◌}
use Rattle.ps_http.proofs.AsciiLemmas.{allowed_text, not_allowed}
use Rattle.ps_http.proofs.head.allowed.Goals as goal

pub returns-in_ok-text-in-Ok : goal.returns-in_ok-text-in-Ok
returns-in_ok-text-in-Ok c =
    allowed_text _ c.in-Some.value.now c.in_ok-text-in-Ok.text c.in-Some.ensures (c.in_ok-text-in-Ok.ensures ∙ c.in-Ok.ensures.cases.0) c.in-Ok.ensures.cases.1

pub returns-in-Err : goal.returns-in-Err
returns-in-Err c = not_allowed _ c.in-Some.value.now c.in-Some.ensures c.in-Err.ensures.cases.0
