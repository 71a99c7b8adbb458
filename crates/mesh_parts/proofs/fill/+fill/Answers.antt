use Rattle.std.proofs.Common.{◌≡◌, [], ◌∷◌, ◌++◌, sym, ap, ◌∙◌, subst, append_assoc, take_all, map, option_copied, rules}
use Rattle.std.specs.List.Sorted.{IsStrictlySortedBy}
use Rattle.std.specs.Map.{keys_of}
use Rattle.std.specs.String.{string_cmp}
use Rattle.serde_json.proofs.Views.{Entry}
use Rattle.serde_json.specs.View.{view}
use Rattle.ps_json.specs.Fields.{with_plain}
use Rattle.mesh_parts.specs.Fill.{filled}
use Rattle.mesh_parts.proofs.FillLemmas.{filled-next, items_filled}
use Rattle.mesh_parts.proofs.fill.+fill.Goals as goal

pub fill_members-loop-name-preserved : goal.fill_members-loop-name-preserved
fill_members-loop-name-preserved t c =
    let l = c.loop-name in
    let done = l.invariant.0 in
    let e : Entry = (c.in-Some.name.now, c.in-Some.member.now) in
    let left = c.next.new.self in
    let all : c.args.members.now.entries ≡ done ++ e ∷ left = l.invariant.1 ∙ ap (λ es. done ++ es) c.in-Some.ensures.steps in
    let next = filled-next (option_copied c.args.pair) done e left (subst (λ es. IsStrictlySortedBy string_cmp (keys_of es)) all c.iter-name-items.ensures.ordered) in (
      done ++ e ∷ [],
      all ∙ sym (append_assoc done (e ∷ []) left),
      c.in_ok-put_plain.ensures ∙ (λ i. with_plain (c.as_str.ensures.value i) (c.in_ok-copy.ensures i) (l.invariant.2 i)) ∙ next,
    )

pub fill_items-returns : goal.fill_items-returns
fill_items-returns t c =
    let l = c.loop-item in
    let items = c.deref-item-items.result.now in
    let here : items ≡ c.args.items.now.items = search rules in
    let all = take_all l.item-index items (search rules) in
    items_filled (option_copied c.args.pair) _ _ (l.invariant ∙ ap (λ vs. map (filled (option_copied c.args.pair)) (map view vs)) (all ∙ here))
