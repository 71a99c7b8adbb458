use Rattle.ps_http.proofs.AgainLemmas.{request_again}
use Rattle.ps_http.proofs.law.law_requests_read_again.Goals as goal

pub returns : goal.returns
returns c = request_again
