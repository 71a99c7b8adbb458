use Rattle.std.proofs.Common.{◌≡◌, ◌<◌, ◌^◌, List, length, min, get_or, set, ap, subst, refl, arith}
use Rattle.std.specs.Vec.{vec_capacity}
use Rattle.ps_lists.specs.Order.{last_place, picked}
use Rattle.ps_lists.specs.PlacedList.{PlacedList}
use Rattle.ps_lists.proofs.PickLemmas.{length_seen, read_inside, read_item, read_set}
use Rattle.ps_lists.proofs.placed_list.PlacedListIndexMutUsize.index_mut.Goals as goal

pub index-requires : goal.index-requires
index-requires g c =
    let same = length_seen c.self.inside.cells.items c.self.inside.order.list c.self.invariant in
    let long = ap (λ (v : PlacedList g.row.T.Denot). length v.list) c.self.view_is in
    omega (arith, same, long, c.requires)

pub index_mut-requires : goal.index_mut-requires
index_mut-requires g c =
    let order = c.self.inside.order.list in
    let same = length_seen c.self.inside.cells.items order c.self.invariant in
    let long = ap (λ (v : PlacedList g.row.T.Denot). length v.list) c.self.view_is in
    let low : c.args.index < length order = omega (arith, same, long, c.requires) in
    let filled = read_inside c.self.inside.cells.items order c.self.invariant c.args.index c.index.result.now low c.index.ensures in
    omega (arith, filled, c.self.inside.cells.ok.0)

-- the cell that is written has one number, which stands at the place
pub returns : goal.returns
returns g c =
    let cells = c.self.inside.cells.items in
    let order = c.self.inside.order.list in
    let same = length_seen cells order c.self.invariant in
    let long = ap (λ (v : PlacedList g.row.T.Denot). length v.list) c.self.view_is in
    let low : c.args.index < length order = omega (arith, same, long, c.requires) in
    let n = c.index.result.now in
    let seen : List g.row.T.Denot → PlacedList g.row.T.Denot = λ l. record { list = l; places = min (vec_capacity c.self.inside.cells) (min c.self.inside.order.places (2 ^ 32)); last = last_place order } in
    let written : (v : PlacedList g.row.T.Denot) → g.row.T.Denot → PlacedList g.row.T.Denot = λ v w. record { list = set v.list c.args.index w; places = v.places; last = v.last } in
    let x = c.index_mut.result.now in (
      (refl {a = c.index_mut.result.ghost_name}, λ w. subst (λ (v : PlacedList g.row.T.Denot). seen (picked (set cells n w) order) ≡ written v w) c.self.view_is (ap seen (read_set cells order c.self.invariant c.args.index n w low c.index.ensures))),
      record {
        writes_back = tt;
        value = subst (λ (v : PlacedList g.row.T.Denot). x ≡ get_or v.list c.args.index x) c.self.view_is (read_item cells order c.self.invariant c.args.index n x low c.index.ensures c.index_mut.ensures.value);
      },
    )
