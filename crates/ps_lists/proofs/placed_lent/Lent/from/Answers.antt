use Rattle.std.proofs.Common.{◌<◌, ◌∙◌, List, All, length, drop, sym, ap, subst, arith}
use Rattle.ps_lists.specs.Order.{picked}
use Rattle.ps_lists.proofs.PickLemmas.{drop_picked, length_picked}
use Rattle.std.proofs.lemmas.List.Elements.{All-drop}
use Rattle.ps_lists.proofs.placed_lent.Lent.from.Goals as goal

pub from-requires : goal.from-requires
from-requires g c =
    let same = length_picked c.self.inside.cells.now c.self.inside.order c.self.invariant in
    let long = ap (λ (l : List g.row.T.Denot). length l) c.self.view_is in
    omega (arith, same, long, c.requires)

pub of-requires : goal.of-requires
of-requires g c =
    subst (All (λ n. n < length c.self.inside.cells.now)) (sym c.from.ensures) (All-drop (λ n. n < length c.self.inside.cells.now) c.args.place c.self.inside.order c.self.invariant)

pub returns : goal.returns
returns g c =
    c.of.ensures ∙ ap (picked c.self.inside.cells.now) c.from.ensures ∙ sym (drop_picked c.self.inside.cells.now c.self.inside.order c.self.invariant c.args.place) ∙ ap (drop c.args.place) c.self.view_is
