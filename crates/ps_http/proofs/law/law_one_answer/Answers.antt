use Rattle.ps_http.proofs.LawLemmas.{one_request, one_response}
use Rattle.ps_http.proofs.law.law_one_answer.Goals as goal

pub returns-clause-request : goal.returns-clause-request
returns-clause-request c = one_request

pub returns-clause-response : goal.returns-clause-response
returns-clause-response c = one_response
