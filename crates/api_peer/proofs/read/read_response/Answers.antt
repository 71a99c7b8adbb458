use Rattle.std.proofs.Common.{◌++◌}
use Rattle.api_peer.proofs.ReadLemmas.{response_fault, response_same}
use Rattle.api_peer.proofs.read.read_response.Goals as goal

pub returns-in-Ok-clause-response : goal.returns-in-Ok-clause-response
returns-in-Ok-clause-response c = λ r is.
    response_same c.law_one_answer.ensures.response c.args.bytes.now r is c.in-Ok.response (c.read_response.new.self.held ++ c.read_response.new.self.source)
    (rw (c.limits.ensures, c.in_ok-reader.ensures.reader) at c.in-Ok.ensures.message)

pub returns-clause-fault : goal.returns-clause-fault
returns-clause-fault c = λ r is.
    response_fault c.law_one_answer.ensures.response c.args.bytes.now r is c.in-Err.fault
    (rw (c.limits.ensures, c.in_ok-reader.ensures.reader) at c.in-Err.ensures.refusal)
    c.in-Err.ensures.fault
    (rw c.in_ok-reader.ensures.reader at c.in-Err.ensures.only_after)
