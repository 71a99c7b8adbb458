use Rattle.api_reply.proofs.RefusalLemmas.{refusal_whole}
use Rattle.api_reply.proofs.refusal.refuse.Goals as goal

pub body_bytes-requires : goal.body_bytes-requires
body_bytes-requires c = rw c.in_ok-value.ensures (refusal_whole c.args.refusal.now)
