use Rattle.ps_http.proofs.ReplyLemmas.{response_again}
use Rattle.ps_http.proofs.law.law_responses_read_again.Goals as goal

pub returns : goal.returns
returns c = response_again
