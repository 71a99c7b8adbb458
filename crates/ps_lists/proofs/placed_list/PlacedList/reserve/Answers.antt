use Rattle.std.proofs.Common.{◌≡◌, List, ℕ, length, ap, ap₂, arith}
use Rattle.ps_lists.specs.Order.{picked}
use Rattle.ps_lists.proofs.PickLemmas.{length_seen}
use Rattle.ps_lists.proofs.placed_list.PlacedList.reserve.Goals as goal

-- both have places for them, and there are numbers for them
pub returns-clause-ok : goal.returns-clause-ok
returns-clause-ok g c =
    let cells = c.self.inside.cells.items in
    let order = c.self.inside.order.list in
    let same = length_seen cells order c.self.invariant in
    let kept : length (picked c.reserve.new.self.items c.reserve-2.new.self.list) ≡ length (picked cells order) = ap₂ (λ (xs : List g.row.T.Denot) (ns : List ℕ). length (picked xs ns)) c.reserve.ensures.items c.reserve-2.ensures.same in
    let long = ap (λ (ns : List ℕ). length ns) c.reserve-2.ensures.same in
    let first = c.in_ok-reserve.ensures.ok in
    let second = c.in_ok-reserve-2.ensures.ok in
    omega (arith, same, kept, long, first, second, c.reserve.ensures.len, c.if-len-count.false, c.len.ensures, c.self.invariant.all, c.self.inside.cells.ok.0)
