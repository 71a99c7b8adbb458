use Rattle.std.proofs.Common.{Ok, Option, Result, refl}
use Rattle.host_model.specs.declared.input.Input.{Input}
use Rattle.api_answer.specs.Heard.{heard_of}
use Rattle.api_peer.proofs.HeardLemmas.{meant}
use Rattle.api_peer.proofs.heard_law.law_heard.Goals as goal

pub returns : goal.returns
returns c = λ config o r response is reads replies short.
    let made : Result (Option Input) (Unit {0}) = Ok (heard_of o response) in
    meant config o r response made c.law_test.ensures is reads refl replies (rw is at short)
