use Rattle.std.proofs.Common.{◌≤◌, length, subst}
use Rattle.ps_lists.specs.TieredList.{TieredList}
use Rattle.ps_lists.proofs.JoinLemmas.{joined_few}
use Rattle.ps_lists.proofs.tiered_list.TieredList.remove.Goals as goal

pub returns-clause-fits : goal.returns-clause-fits
returns-clause-fits g c =
    subst (λ (v : TieredList g.row.T.Denot). length v.list ≤ v.places) c.self.view_is (joined_few c.self.inside.blocks.items c.self.invariant.0)
