use Rattle.std.proofs.Common.{◌≡◌, [], ◌∷◌, ◌++◌, sym, ap, ◌∙◌, subst, append_assoc, take_all, map, rules, arith}
use Rattle.std.proofs.lemmas.Grind.{common_steps}
use Rattle.std.specs.List.Sorted.{IsStrictlySortedBy}
use Rattle.std.specs.Map.{keys_of}
use Rattle.std.specs.String.{string_cmp}
use Rattle.serde_json.proofs.Views.{Entry}
use Rattle.serde_json.specs.View.{view, items_view, members_view}
use Rattle.limit_ident.specs.Plain.{ArePlainItems, ArePlain}
use Rattle.ps_json.specs.Fields.{with_plain}
use Rattle.limit_apply.specs.Bare.{bare}
use Rattle.limit_apply.proofs.BareLemmas.{bare-next, items_copied, plain_with, plain_items-push}
use Rattle.limit_apply.proofs.bare.+bare.Goals as goal

pub copy_members-loop-name-preserved : goal.copy_members-loop-name-preserved
copy_members-loop-name-preserved t c =
    let l = c.loop-name in
    let done = l.invariant.0 in
    let e : Entry = (c.in-Some.name.now, c.in-Some.member.now) in
    let left = c.next.new.self in
    let all : c.args.members.now.entries ≡ done ++ e ∷ left = l.invariant.1 ∙ ap (λ es. done ++ es) c.in-Some.ensures.steps in
    let next = bare-next done e left (subst (λ es. IsStrictlySortedBy string_cmp (keys_of es)) all c.iter-name-items.ensures.ordered) in (
      done ++ e ∷ [],
      all ∙ sym (append_assoc done (e ∷ []) left),
      c.in_ok-put_plain.ensures ∙ (λ i. with_plain (c.as_str.ensures.value i) (c.in_ok-copy.ensures.bare i) (l.invariant.2 i)) ∙ next,
      subst ArePlain (sym c.in_ok-put_plain.ensures) (plain_with c.as_str.result.now (view c.in_ok-copy.copy) (members_view l.copies.entries) c.in_ok-copy.ensures.plain l.invariant.3),
    )

pub copy_items-returns-clause-bare : goal.copy_items-returns-clause-bare
copy_items-returns-clause-bare t c =
    let l = c.loop-item in
    let items = c.deref-item-items.result.now in
    let here : items ≡ c.args.items.now.items = search rules in
    let all = take_all l.item-index items (search rules) in
    items_copied _ _ (l.invariant.copied ∙ ap (λ vs. map bare (map view vs)) (all ∙ here))

pub copy_items-loop-item-preserved : goal.copy_items-loop-item-preserved
copy_items-loop-item-preserved t c = record {
  copied = first_of (search rules, grind (arith, common_steps));
  plain = subst (λ vs. ArePlainItems (items_view vs)) (sym c.in_ok-push.ensures.items) (plain_items-push _ _ c.loop-item.invariant.plain c.in_ok-copy_bare.ensures.plain);
}
