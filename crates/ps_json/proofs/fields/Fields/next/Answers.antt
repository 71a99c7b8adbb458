use Rattle.std.proofs.Common.{◌≡◌, false, string_bytes, Some, sym, ap, ◌∙◌}
use Rattle.ps_json.specs.Fields.{is_comment}
use Rattle.ps_json.proofs.MemberLemmas.{least_unknown-next, fewer_next}
use Rattle.ps_json.proofs.fields.Fields.next.Goals as goal

pub returns-then-not-is_comment-clause-least : goal.returns-then-not-is_comment-clause-least
returns-then-not-is_comment-clause-least c =
    let unknown : is_comment (string_bytes c.in-Some.name) ≡ false = sym (ap is_comment c.as_str.ensures.value) ∙ sym c.is_comment.ensures ∙ c.if-not-is_comment.true in
    ap Some c.from_string.ensures ∙ sym (least_unknown-next c.args.self.now _ _ _ c.in-Some.ensures.removal unknown c.in-Some.ensures.all_above c.loop-name.invariant.least)

pub returns-then-not-is_comment-clause-fewer : goal.returns-then-not-is_comment-clause-fewer
returns-then-not-is_comment-clause-fewer c =
    let unknown : is_comment (string_bytes c.in-Some.name) ≡ false = sym (ap is_comment c.as_str.ensures.value) ∙ sym c.is_comment.ensures ∙ c.if-not-is_comment.true in
    fewer_next c.args.self.now _ _ _ c.in-Some.ensures.removal unknown c.loop-name.invariant.member c.loop-name.invariant.rest
