use Rattle.std.proofs.Common.{◌≡◌, ◌<◌, ◌∙◌, ◌+◌, ◌∷◌, List, length, get_or, drop, sym, ap, subst, arith}
use Rattle.ps_lists.proofs.PickLemmas.{item_picked, length_picked}
use Rattle.std.proofs.lemmas.List.{drop_more}
use Rattle.ps_lists.proofs.placed_lent.Lent.at.Goals as goal

pub at-requires : goal.at-requires
at-requires g c =
    let same = length_picked c.self.inside.cells.now c.self.inside.order c.self.invariant in
    let long = ap (λ (l : List g.row.T.Denot). length l) c.self.view_is in
    omega (arith, same, long, c.requires)

pub returns-clause-value : goal.returns-clause-value
returns-clause-value g c =
    let cells = c.self.inside.cells.now in
    let order = c.self.inside.order in
    let n = c.at.result.now in
    let x = get_or cells n c.index-self-at.result in
    let long = ap (λ (l : List g.row.T.Denot). length l) c.self.view_is in
    let low : c.args.place < length order = omega (arith, length_picked cells order c.self.invariant, long, c.requires) in
    subst (λ (l : List g.row.T.Denot). x ≡ get_or l c.args.place x) c.self.view_is
    (item_picked cells order c.self.invariant c.args.place n x low c.at.ensures.value (ap (get_or cells n) c.index-self-at.is))

pub returns-clause-rest : goal.returns-clause-rest
returns-clause-rest g c =
    let x = get_or c.self.inside.cells.now c.at.result.now c.index-self-at.result in
    drop_more c.args.self.now c.args.place x c.requires ∙ ap (λ y. y ∷ drop (c.args.place + 1) c.args.self.now) (sym (returns-clause-value g c))
