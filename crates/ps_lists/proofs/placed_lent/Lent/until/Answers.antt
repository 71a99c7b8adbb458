use Rattle.std.proofs.Common.{◌<◌, ◌∙◌, List, All, length, take, sym, ap, subst, arith}
use Rattle.ps_lists.specs.Order.{picked}
use Rattle.ps_lists.proofs.PickLemmas.{length_picked, take_picked}
use Rattle.std.proofs.lemmas.List.Elements.{All-take}
use Rattle.ps_lists.proofs.placed_lent.Lent.until.Goals as goal

pub until-requires : goal.until-requires
until-requires g c =
    let same = length_picked c.self.inside.cells.now c.self.inside.order c.self.invariant in
    let long = ap (λ (l : List g.row.T.Denot). length l) c.self.view_is in
    omega (arith, same, long, c.requires)

pub of-requires : goal.of-requires
of-requires g c =
    subst (All (λ n. n < length c.self.inside.cells.now)) (sym c.until.ensures) (All-take (λ n. n < length c.self.inside.cells.now) c.args.place c.self.inside.order c.self.invariant)

pub returns : goal.returns
returns g c =
    c.of.ensures ∙ ap (picked c.self.inside.cells.now) c.until.ensures ∙ sym (take_picked c.self.inside.cells.now c.self.inside.order c.self.invariant c.args.place) ∙ ap (take c.args.place) c.self.view_is
