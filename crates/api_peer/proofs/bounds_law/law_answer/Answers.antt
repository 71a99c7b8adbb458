use Rattle.api_peer.proofs.AnswerLemmas.{replied}
use Rattle.api_peer.proofs.bounds_law.law_answer.Goals as goal

pub returns : goal.returns
returns c = replied
