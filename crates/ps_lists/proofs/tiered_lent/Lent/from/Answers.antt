use Rattle.std.proofs.Common.{◌∙◌, sym, arith}
use Rattle.ps_lists.specs.TieredList.{joined}
use Rattle.ps_lists.proofs.LentLemmas.{drop_left, length_left}
use Rattle.ps_lists.proofs.tiered_lent.Lent.from.Goals as goal

pub returns : goal.returns
returns g c =
    let xs = joined c.self.inside.blocks.now in
    let long = length_left xs c.self.inside.from c.self.inside.until c.args.self.now c.self.invariant.2 c.self.view_is in
    c.of.ensures ∙ sym (drop_left xs c.self.inside.from c.self.inside.until c.args.self.now c.self.invariant.2 c.self.view_is c.args.place (omega (arith, long, c.requires)))
