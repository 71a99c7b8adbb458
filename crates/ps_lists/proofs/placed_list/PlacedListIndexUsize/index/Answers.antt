use Rattle.std.proofs.Common.{◌≡◌, ◌<◌, length, get_or, ap, subst, arith}
use Rattle.ps_lists.specs.PlacedList.{PlacedList}
use Rattle.ps_lists.proofs.PickLemmas.{length_seen, read_inside, read_item}
use Rattle.ps_lists.proofs.placed_list.PlacedListIndexUsize.index.Goals as goal

pub index-requires : goal.index-requires
index-requires g c =
    let same = length_seen c.self.inside.cells.items c.self.inside.order.list c.self.invariant in
    let long = ap (λ (v : PlacedList g.row.T.Denot). length v.list) c.self.view_is in
    omega (arith, same, long, c.requires)

pub index-requires-2 : goal.index-requires-2
index-requires-2 g c =
    let order = c.self.inside.order.list in
    let same = length_seen c.self.inside.cells.items order c.self.invariant in
    let long = ap (λ (v : PlacedList g.row.T.Denot). length v.list) c.self.view_is in
    let low : c.args.index < length order = omega (arith, same, long, c.requires) in
    let filled = read_inside c.self.inside.cells.items order c.self.invariant c.args.index c.index.result.now low c.index.ensures in
    omega (arith, filled, c.self.inside.cells.ok.0)

pub returns : goal.returns
returns g c =
    let order = c.self.inside.order.list in
    let same = length_seen c.self.inside.cells.items order c.self.invariant in
    let long = ap (λ (v : PlacedList g.row.T.Denot). length v.list) c.self.view_is in
    let low : c.args.index < length order = omega (arith, same, long, c.requires) in
    let x = c.index-2.result.now in
    subst (λ (v : PlacedList g.row.T.Denot). x ≡ get_or v.list c.args.index x) c.self.view_is
    (read_item c.self.inside.cells.items order c.self.invariant c.args.index c.index.result.now x low c.index.ensures c.index-2.ensures)
