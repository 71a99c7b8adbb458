use Rattle.std.proofs.Common.{◌≤◌, ◌∙◌, length, sym, ap, subst, arith}
use Rattle.ps_lists.specs.PlacedList.{PlacedList}
use Rattle.ps_lists.proofs.OrderLemmas.{inside}
use Rattle.ps_lists.proofs.PickLemmas.{length_picked}
use Rattle.ps_lists.proofs.placed_list.PlacedList.len.Goals as goal

pub returns-clause-value : goal.returns-clause-value
returns-clause-value g c =
    let cells = c.self.inside.cells.items in
    let order = c.self.inside.order.list in
    c.len.ensures.value ∙ sym (length_picked cells order (inside (length cells) order c.self.invariant)) ∙ ap (λ (v : PlacedList g.row.T.Denot). length v.list) c.self.view_is

pub returns-clause-fits : goal.returns-clause-fits
returns-clause-fits g c =
    let cells = c.self.inside.cells.items in
    let order = c.self.inside.order.list in
    subst (λ (v : PlacedList g.row.T.Denot). length v.list ≤ v.places) c.self.view_is (omega (arith, length_picked cells order (inside (length cells) order c.self.invariant), c.len.ensures.fits, c.self.inside.cells.ok))
