use Rattle.std.proofs.Common.{◌≡◌, ◌≤◌, ◌∙◌, false, length, subst, sym}
use Rattle.ps_http.specs.declared.message.Response.{Response}
use Rattle.ps_time.specs.Numbers.{most_request_bytes}
use Rattle.api_peer.specs.Texts.{tells_texts}
use Rattle.api_peer.proofs.ReplyBounds.{reply_short}
use Rattle.api_peer.proofs.reply.is_short.Goals as goal

-- what tells no such texts is short
pub returns-clause-short : goal.returns-clause-short
returns-clause-short c = λ yes.
    let known : tells_texts c.args.reply.now ≡ false = sym c.tells_texts.ensures ∙ c.if-tells_texts.false in
    subst (λ (r : Response). length r.body ≤ most_request_bytes) (sym c.requires.response) (reply_short c.args.config.now c.args.order.now.body c.args.reply.now c.requires.told known)
