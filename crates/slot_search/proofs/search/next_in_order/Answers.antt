use Rattle.std.proofs.Common.{◌≡◌, ◌∙◌, ◌≤◌, Some, ap, get_or, max, subst, sym, arith}
use Rattle.ps_time.specs.Span.{Range}
use Rattle.slot_search.proofs.SearchLemmas.{next_at, next_nowhere}
use Rattle.slot_search.proofs.search.next_in_order.Goals as goal

-- the first that doesn't end before it
pub returns-then-at-windows : goal.returns-then-at-windows
returns-then-at-windows c =
    let ws = c.args.windows.now in
    let at = c.ending_before-at.result in
    let d = c.index-windows-at.result in
    let is : (record { first = c.window.inside.first; last = c.window.inside.last }) ≡ get_or ws at d = c.window.view_is ∙ c.index-windows-at.is in
    let some : (get_or ws at d).first ≤ (get_or ws at d).last = subst (λ (w : Range). w.first ≤ w.last) is c.window.invariant in
    ap Some (c.max.ensures ∙ ap (λ (w : Range). max w.first c.args.from) is)
    ∙ sym (next_at ws c.args.from at c.requires c.ending_before-at.ensures.parted d c.if-at-windows.true some)

-- all end before it
pub returns-else-at-windows : goal.returns-else-at-windows
returns-else-at-windows c =
    sym (next_nowhere c.args.windows.now c.args.from c.ending_before-at.result c.requires c.ending_before-at.ensures.parted (omega (arith, c.if-at-windows.false)))
