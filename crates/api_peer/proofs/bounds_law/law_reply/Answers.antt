use Rattle.api_peer.proofs.ReplyLemmas.{reply_shown}
use Rattle.api_peer.proofs.bounds_law.law_reply.Goals as goal

pub returns : goal.returns
returns c = reply_shown
