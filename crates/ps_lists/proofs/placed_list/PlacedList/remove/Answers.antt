use Rattle.std.proofs.Common.{◌≡◌, ◌≤◌, ◌<◌, ◌∙◌, ◌+◌, ◌-◌, length, get_or, sym, ap, ap₂, subst, arith}
use Rattle.std.specs.List.{remove}
use Rattle.std.proofs.lemmas.List.Edits.{length-remove}
use Rattle.ps_lists.specs.Order.{last_place, picked}
use Rattle.ps_lists.specs.PlacedList.{PlacedList}
use Rattle.ps_lists.proofs.OrderLemmas.{last_number, last_within, one_less}
use Rattle.ps_lists.proofs.PickLemmas.{length_seen, read_inside, read_item, read_remove}
use Rattle.ps_lists.proofs.placed_list.PlacedList.remove.Goals as goal

pub index-number-requires : goal.index-number-requires
index-number-requires g c =
    let same = length_seen c.self.inside.cells.items c.self.inside.order.list c.self.invariant in
    let long = ap (λ (v : PlacedList g.row.T.Denot). length v.list) c.self.view_is in
    omega (arith, same, long, c.requires.within)

-- the last cell's number stands at the place that was given
pub set-requires : goal.set-requires
set-requires g c =
    let order = c.self.inside.order.list in
    let same = length_seen c.self.inside.cells.items order c.self.invariant in
    let long = ap (λ (v : PlacedList g.row.T.Denot). length v.list) c.self.view_is in
    let end = ap (λ (v : PlacedList g.row.T.Denot). v.last) c.self.view_is in
    let low = last_within (length c.self.inside.cells.items) order c.self.invariant (omega (arith, same, long, c.requires.within, c.self.invariant.all)) in
    subst (λ n. n < length order) (end ∙ sym c.requires.last) low

pub remove-requires : goal.remove-requires
remove-requires g c =
    let same = length_seen c.self.inside.cells.items c.self.inside.order.list c.self.invariant in
    let long = ap (λ (v : PlacedList g.row.T.Denot). length v.list) c.self.view_is in
    omega (arith, same, long, c.requires.within, c.set.ensures.len)

pub swap_remove-requires : goal.swap_remove-requires
swap_remove-requires g c =
    let order = c.self.inside.order.list in
    let same = length_seen c.self.inside.cells.items order c.self.invariant in
    let long = ap (λ (v : PlacedList g.row.T.Denot). length v.list) c.self.view_is in
    let low : c.args.at < length order = omega (arith, same, long, c.requires.within) in
    let filled = read_inside c.self.inside.cells.items order c.self.invariant c.args.at c.index-number.result.now low c.index-number.ensures in
    omega (arith, filled, c.self.inside.cells.ok.0)

-- one cell less, and no number of the one that went
pub invariant_of-self : goal.invariant_of-self
invariant_of-self g c =
    let cells = c.self.inside.cells.items in
    let order = c.self.inside.order.list in
    let n = c.index-number.result.now in
    let same = length_seen cells order c.self.invariant in
    let long = ap (λ (v : PlacedList g.row.T.Denot). length v.list) c.self.view_is in
    let low : c.args.at < length order = omega (arith, same, long, c.requires.within) in
    let some : 0 < length cells = omega (arith, low, c.self.invariant.all) in
    let end : c.args.last ≡ last_place order = c.requires.last ∙ sym (ap (λ (v : PlacedList g.row.T.Denot). v.last) c.self.view_is) in
    let there : get_or order c.args.last n ≡ length cells - 1 = ap (λ m. get_or order m n) end ∙ last_number (length cells) order c.self.invariant n some in
    let less = one_less (length cells) order c.self.invariant c.args.at c.args.last n n low (subst (λ m. m < length order) (sym end) (last_within (length cells) order c.self.invariant some)) (sym c.index-number.ensures) there in
    let count : length c.swap_remove.new.self.items ≡ length cells - 1 = omega (arith, c.swap_remove.ensures.len, c.swap_remove.new.self.ok.0, c.self.inside.cells.ok.0) in
    rw (count, c.remove.ensures.list, c.set.ensures.list) less

pub returns-clause-value : goal.returns-clause-value
returns-clause-value g c =
    let order = c.self.inside.order.list in
    let x = c.swap_remove.result in
    let same = length_seen c.self.inside.cells.items order c.self.invariant in
    let long = ap (λ (v : PlacedList g.row.T.Denot). length v.list) c.self.view_is in
    let low : c.args.at < length order = omega (arith, same, long, c.requires.within) in
    subst (λ (v : PlacedList g.row.T.Denot). x ≡ get_or v.list c.args.at x) c.self.view_is
    (read_item c.self.inside.cells.items order c.self.invariant c.args.at c.index-number.result.now x low c.index-number.ensures c.swap_remove.ensures.value)

pub returns-clause-list : goal.returns-clause-list
returns-clause-list g c =
    let cells = c.self.inside.cells.items in
    let order = c.self.inside.order.list in
    let n = c.index-number.result.now in
    let same = length_seen cells order c.self.invariant in
    let long = ap (λ (v : PlacedList g.row.T.Denot). length v.list) c.self.view_is in
    let low : c.args.at < length order = omega (arith, same, long, c.requires.within) in
    let end : c.args.last ≡ last_place order = c.requires.last ∙ sym (ap (λ (v : PlacedList g.row.T.Denot). v.last) c.self.view_is) in
    ap₂ picked c.swap_remove.ensures.items (c.remove.ensures.list ∙ ap (λ l. remove l c.args.at) c.set.ensures.list)
    ∙ read_remove cells order c.self.invariant c.args.at c.args.last n c.swap_remove.result low c.index-number.ensures end
    ∙ ap (λ (v : PlacedList g.row.T.Denot). remove v.list c.args.at) c.self.view_is

pub returns-clause-len : goal.returns-clause-len
returns-clause-len g c = ap (λ l. length l + 1) (returns-clause-list g c) ∙ length-remove c.args.self.now.list c.args.at c.requires.within

pub returns-clause-fits : goal.returns-clause-fits
returns-clause-fits g c =
    let same = length_seen c.self.inside.cells.items c.self.inside.order.list c.self.invariant in
    subst (λ (v : PlacedList g.row.T.Denot). length v.list ≤ v.places) c.self.view_is
    (omega (arith, same, c.self.invariant.all, c.self.invariant.few, c.remove.ensures.fits, c.set.ensures.len, c.set.ensures.places, c.self.inside.cells.ok))
