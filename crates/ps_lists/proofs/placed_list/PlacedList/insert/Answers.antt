use Rattle.std.proofs.Common.{◌<◌, ◌∙◌, ◌^◌, length, min, ap, ap₂, arith}
use Rattle.std.specs.List.{insert}
use Rattle.std.proofs.lemmas.List.{length_push}
use Rattle.std.proofs.lemmas.List.Edits.{length-insert}
use Rattle.ps_lists.specs.Order.{picked}
use Rattle.ps_lists.specs.PlacedList.{PlacedList}
use Rattle.ps_lists.proofs.OrderLemmas.{inside, one_more}
use Rattle.ps_lists.proofs.PickLemmas.{insert_picked, length_seen}
use Rattle.ps_lists.proofs.placed_list.PlacedList.insert.Goals as goal

-- the places are those of the cells, of the numbers and of four bytes
pub add_cell-number-requires-clause-cell : goal.add_cell-number-requires-clause-cell
add_cell-number-requires-clause-cell g c =
    let same = length_seen c.self.inside.cells.items c.self.inside.order.list c.self.invariant in
    let long = ap (λ (v : PlacedList g.row.T.Denot). length v.list) c.self.view_is in
    let places = ap (λ (v : PlacedList g.row.T.Denot). v.places) c.self.view_is in
    omega (arith, same, long, places, c.requires.place, c.self.invariant.all, c.self.inside.cells.ok.0)

pub add_cell-number-requires-clause-number : goal.add_cell-number-requires-clause-number
add_cell-number-requires-clause-number g c =
    let same = length_seen c.self.inside.cells.items c.self.inside.order.list c.self.invariant in
    let long = ap (λ (v : PlacedList g.row.T.Denot). length v.list) c.self.view_is in
    let places = ap (λ (v : PlacedList g.row.T.Denot). v.places) c.self.view_is in
    omega (arith, same, long, places, c.requires.place, c.self.invariant.all, c.self.inside.cells.ok.0)

pub insert-requires-clause-within : goal.insert-requires-clause-within
insert-requires-clause-within g c =
    let same = length_seen c.self.inside.cells.items c.self.inside.order.list c.self.invariant in
    let long = ap (λ (v : PlacedList g.row.T.Denot). length v.list) c.self.view_is in
    omega (arith, same, long, c.requires.within)

pub insert-requires-clause-place : goal.insert-requires-clause-place
insert-requires-clause-place g c =
    let same = length_seen c.self.inside.cells.items c.self.inside.order.list c.self.invariant in
    let long = ap (λ (v : PlacedList g.row.T.Denot). length v.list) c.self.view_is in
    let places = ap (λ (v : PlacedList g.row.T.Denot). v.places) c.self.view_is in
    omega (arith, same, long, places, c.requires.place)

-- the item's cell is the last one, and its number stands at the place
pub invariant_of-self : goal.invariant_of-self
invariant_of-self g c =
    let cells = c.self.inside.cells.items in
    let order = c.self.inside.order.list in
    let same = length_seen cells order c.self.invariant in
    let long = ap (λ (v : PlacedList g.row.T.Denot). length v.list) c.self.view_is in
    let places = ap (λ (v : PlacedList g.row.T.Denot). v.places) c.self.view_is in
    let few : length cells < 2 ^ 32 = omega (arith, same, long, places, c.requires.place, c.self.invariant.all) in
    let more = one_more (length cells) order c.self.invariant c.args.at (omega (arith, same, long, c.requires.within)) few in
    rw (c.add_cell-number.ensures.items, c.insert.ensures.list, c.add_cell-number.ensures.number, length_push) more

pub returns-clause-list : goal.returns-clause-list
returns-clause-list g c =
    let cells = c.self.inside.cells.items in
    let order = c.self.inside.order.list in
    ap₂ picked c.add_cell-number.ensures.items (c.insert.ensures.list ∙ ap (insert order c.args.at) c.add_cell-number.ensures.number) ∙ insert_picked cells order (inside (length cells) order c.self.invariant) c.args.at c.args.item
    ∙ ap (λ (v : PlacedList g.row.T.Denot). insert v.list c.args.at c.args.item) c.self.view_is

pub returns-clause-len : goal.returns-clause-len
returns-clause-len g c = ap length (returns-clause-list g c) ∙ length-insert c.args.self.now.list c.args.at c.args.item c.requires.within

pub returns-clause-places : goal.returns-clause-places
returns-clause-places g c = ap₂ (λ m n. min m (min n (2 ^ 32))) c.add_cell-number.ensures.capacity c.insert.ensures.places ∙ ap (λ (v : PlacedList g.row.T.Denot). v.places) c.self.view_is
