use Rattle.std.proofs.Common.{◌≡◌, true, false, string_bytes, sym, ap, ◌∙◌}
use Rattle.ps_json.specs.Fields.{is_comment}
use Rattle.ps_json.proofs.MemberLemmas.{end_of-unknown, least_unknown-passed, sorted-passed}
use Rattle.ps_json.proofs.fields.Fields.end.Goals as goal

pub returns-then-not-is_comment : goal.returns-then-not-is_comment
returns-then-not-is_comment c =
    let loop = c.loop-name.invariant in
    let unknown : is_comment (string_bytes c.in-Some.name.now) ≡ false = sym (ap is_comment c.as_str-name.ensures.value) ∙ sym c.is_comment.ensures ∙ c.if-not-is_comment.true in
    λ told. rw (c.unknown.ensures told, c.as_str-name.ensures.value) (end_of-unknown c.args.self _ _ _ c.in-Some.ensures.steps loop.least loop.sorted unknown)

pub loop-name-preserved : goal.loop-name-preserved
loop-name-preserved c =
    let loop = c.loop-name.invariant in
    let comment : is_comment (string_bytes c.in-Some.name.now) ≡ true = sym (ap is_comment c.as_str-name.ensures.value) ∙ sym c.is_comment.ensures ∙ c.if-not-is_comment.false in
    record {
      least = least_unknown-passed c.args.self _ _ _ c.in-Some.ensures.steps loop.least loop.sorted comment;
      sorted = sorted-passed c.args.self _ _ _ c.in-Some.ensures.steps loop.least loop.sorted;
    }
