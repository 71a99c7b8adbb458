use Rattle.api_reply.proofs.WholeLemmas.{reply_whole}
use Rattle.api_reply.proofs.respond.respond.Goals as goal

pub body_bytes-requires : goal.body_bytes-requires
body_bytes-requires c = rw c.in_ok-value.ensures (reply_whole c.args.config.now c.args.reply.now c.requires)
