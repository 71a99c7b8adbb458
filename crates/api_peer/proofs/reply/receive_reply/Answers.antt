use Rattle.std.proofs.Common.{◌≡◌, ◌∙◌, Some, ap, sym}
use Rattle.host_model.specs.declared.input.Input.{Input}
use Rattle.api_answer.specs.Heard.{heard_of}
use Rattle.api_peer.proofs.reply.receive_reply.Goals as goal

some_same : (x y : Input) → Some x ≡ Some y → x ≡ y
some_same x y is = cc

-- the response that was read is the one that was written
pub returns-in-Some : goal.returns-in-Some
returns-in-Some c = λ said carries.
    let order = c.args.order in
    let read : c.in-Ok.response ≡ carries.response = c.in-Ok.ensures.response carries.response carries.is in
    some_same c.in-Some.input _ (sym c.in-Some.is ∙ (c.in_ok-input.ensures.value ∙ (ap (heard_of order) read ∙ carries.heard)))
