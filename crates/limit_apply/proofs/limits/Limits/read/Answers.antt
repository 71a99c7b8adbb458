use Rattle.std.proofs.Common.{◌≡◌, Ok, IfSome, subst}
use Rattle.serde_json.specs.View.{view}
use Rattle.serde_json.specs.Written.{compact_text}
use Rattle.ps_json.specs.Tree.{tree_of}
use Rattle.limit_apply.proofs.ReadLemmas.{read_again}
use Rattle.limit_apply.proofs.limits.Limits.read.Goals as goal

pub counted-requires : goal.counted-requires
counted-requires c =
    let d = view c.in_ok-value.value in
    read_again (view c.args.value) d c.in_ok-lists.lists c.in_ok-lists.priorities c.in-Some.text c.in_ok-value.ensures.bare c.in_ok-lists.ensures.value
    (subst (λ o. IfSome o (λ text. text ≡ compact_text d)) c.in-Some.is c.in_ok-text.ensures.text)
    (subst (λ o. IfSome o (λ text. tree_of text ≡ Ok d)) c.in-Some.is c.in_ok-text.ensures.reads)
