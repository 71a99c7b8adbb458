use Rattle.std.proofs.Common.{◌++◌, ◌∙◌, Ok, ap}
use Rattle.api_peer.proofs.ReadLemmas.{request_fault, request_same, request_there}
use Rattle.api_peer.proofs.read.read_request.Goals as goal

pub returns-in-Ok-Some-clause-request : goal.returns-in-Ok-Some-clause-request
returns-in-Ok-Some-clause-request c = λ r is.
    request_same c.law_one_answer.ensures.request c.args.bytes.now r is c.in-Ok-Some.request (c.read_request.new.self.held ++ c.read_request.new.self.source)
    (rw (c.limits.ensures, c.in_ok-reader.ensures.reader, c.in-Ok-Some.field-0-is) at c.in-Ok-Some.ensures.message)

-- bytes that are a request aren't at their end
pub returns-in-Ok-None-clause-fault : goal.returns-in-Ok-None-clause-fault
returns-in-Ok-None-clause-fault c = λ r is.
    absurd (request_there c.law_one_answer.ensures.request c.args.bytes.now r is ((rw c.in_ok-reader.ensures.reader at c.read_request.ensures.end) (c.in-Ok-None.is ∙ ap Ok c.in-Ok-None.field-0-is)).0)

pub returns-clause-fault : goal.returns-clause-fault
returns-clause-fault c = λ r is.
    request_fault c.law_one_answer.ensures.request c.args.bytes.now r is c.in-Err.fault
    (rw (c.limits.ensures, c.in_ok-reader.ensures.reader) at c.in-Err.ensures.refusal)
    (rw c.in_ok-reader.ensures.reader at c.in-Err.ensures.begun)
    c.in-Err.ensures.fault
    (rw c.in_ok-reader.ensures.reader at c.in-Err.ensures.only_after)
