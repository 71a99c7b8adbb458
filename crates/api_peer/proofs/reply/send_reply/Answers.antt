use Rattle.api_peer.proofs.WriteLemmas.{reply_carried}
use Rattle.api_peer.proofs.reply.send_reply.Goals as goal

pub returns : goal.returns
returns c =
    reply_carried c.args.order.now c.args.reply.now c.in_ok-response.response c.write_response-bytes.result c.write_response-bytes.ensures.whole c.write_response-bytes.ensures.short
    (λ short. c.law_heard.ensures c.args.config.now c.args.order.now c.args.reply.now c.in_ok-response.response c.in_ok-response.ensures.response c.in_ok-response.ensures.reads c.requires.told short)
