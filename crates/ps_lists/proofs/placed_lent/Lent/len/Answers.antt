use Rattle.std.proofs.Common.{◌∙◌, List, length, sym, ap}
use Rattle.ps_lists.proofs.PickLemmas.{length_picked}
use Rattle.ps_lists.proofs.placed_lent.Lent.len.Goals as goal

pub returns : goal.returns
returns g c = c.len.ensures ∙ sym (length_picked c.self.inside.cells.now c.self.inside.order c.self.invariant) ∙ ap (λ (l : List g.row.T.Denot). length l) c.self.view_is
