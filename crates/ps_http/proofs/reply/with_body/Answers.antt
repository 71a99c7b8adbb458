use Rattle.std.proofs.Common.{arith, refl, subst, sym}
use Rattle.ps_http.specs.Answer.{responses, IsMessage}
use Rattle.ps_http.proofs.HeadLemmas.{response_within}
use Rattle.ps_http.proofs.WholeLemmas.{whole_reply, put_behind, short_reply, followed_reply}
use Rattle.ps_http.proofs.reply.with_body.Goals as goal

pub returns-then-behind-length-clause-fault : goal.returns-then-behind-length-clause-fault
returns-then-behind-length-clause-fault c =
    (refl, short_reply c.args.limits c.args.bytes.now c.args.head.message c.args.head.size c.args.head.length c.requires.headed (omega (arith, c.requires.fits, c.if-behind-length.true)))

pub returns-then-length-behind-clause-fault : goal.returns-then-length-behind-clause-fault
returns-then-length-behind-clause-fault c =
    followed_reply c.args.limits c.args.bytes.now c.args.head.message c.args.head.size c.args.head.length c.requires.headed _ refl (omega (arith, c.requires.fits, c.if-length-behind.true))

pub returns-in-Ok-clause-whole : goal.returns-in-Ok-clause-whole
returns-in-Ok-clause-whole c = subst (IsMessage responses c.args.limits c.args.bytes.now) (sym c.with_response_body.ensures)
    (whole_reply c.args.limits c.args.bytes.now c.args.head.message c.args.head.size c.args.head.length c.requires.headed _
    (put_behind c.args.bytes.now c.args.head.size _ _ c.new-body.ensures.items c.in-Ok.ensures)
    (omega (arith, c.requires.fits, c.if-behind-length.false, c.if-length-behind.false)))

pub returns-in-Ok-clause-body : goal.returns-in-Ok-clause-body
returns-in-Ok-clause-body c = response_within c.args.limits c.args.bytes.now c.with_response_body.result (returns-in-Ok-clause-whole c)
