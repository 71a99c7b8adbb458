use Rattle.std.proofs.Common.{◌≡◌, ◌<◌, ◌-◌, length, get_or, ap, subst, arith}
use Rattle.ps_lists.specs.Order.{last_place}
use Rattle.ps_lists.specs.PlacedList.{PlacedList}
use Rattle.ps_lists.proofs.OrderLemmas.{last_number, last_within}
use Rattle.ps_lists.proofs.PickLemmas.{length_seen, read_item}
use Rattle.ps_lists.proofs.placed_list.PlacedList.last_cell.Goals as goal

pub returns-clause-within : goal.returns-clause-within
returns-clause-within g c =
    let cells = c.self.inside.cells.items in
    let order = c.self.inside.order.list in
    let same = length_seen cells order c.self.invariant in
    let long = ap (λ (v : PlacedList g.row.T.Denot). length v.list) c.self.view_is in
    let low = last_within (length cells) order c.self.invariant (omega (arith, same, long, c.requires, c.self.invariant.all)) in
    subst (λ (v : PlacedList g.row.T.Denot). v.last < length v.list) c.self.view_is (omega (arith, low, same))

-- the number of the last cell stands there
pub returns-clause-value : goal.returns-clause-value
returns-clause-value g c =
    let cells = c.self.inside.cells.items in
    let order = c.self.inside.order.list in
    let x = c.index.result.now in
    let same = length_seen cells order c.self.invariant in
    let long = ap (λ (v : PlacedList g.row.T.Denot). length v.list) c.self.view_is in
    let some : 0 < length cells = omega (arith, same, long, c.requires, c.self.invariant.all) in
    let low = last_within (length cells) order c.self.invariant some in
    let n = c.len.result - 1 in
    let number = last_number (length cells) order c.self.invariant n some in
    let read : n ≡ get_or order (last_place order) n = omega (arith, number, c.len.ensures, c.self.inside.cells.ok.0) in
    subst (λ (v : PlacedList g.row.T.Denot). x ≡ get_or v.list v.last x) c.self.view_is
    (read_item cells order c.self.invariant (last_place order) n x low read c.index.ensures)
