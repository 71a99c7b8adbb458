use Rattle.std.proofs.Common.{◌≡◌, ◌<◌, length, get_or, sym, subst, arith}
use Rattle.ps_lists.specs.TieredList.{TieredList}
use Rattle.ps_lists.proofs.LentLemmas.{stands_at}
use Rattle.ps_lists.proofs.tiered_list.TieredListIndexUsize.index.Goals as goal

pub index-requires : goal.index-requires
index-requires g c =
    let lt = subst (λ (v : TieredList g.row.T.Denot). c.args.index < length v.list) (sym c.self.view_is) c.requires in
    let there = stands_at c.self.inside.blocks.items c.self.invariant.0 c.args.index lt in
    omega (arith, there.block, c.self.inside.blocks.ok.0)

pub index-requires-2 : goal.index-requires-2
index-requires-2 g c =
    let lt = subst (λ (v : TieredList g.row.T.Denot). c.args.index < length v.list) (sym c.self.view_is) c.requires in
    let there = stands_at c.self.inside.blocks.items c.self.invariant.0 c.args.index lt in
    there.within c.index.result.now c.index.ensures

pub returns : goal.returns
returns g c =
    let lt = subst (λ (v : TieredList g.row.T.Denot). c.args.index < length v.list) (sym c.self.view_is) c.requires in
    let there = stands_at c.self.inside.blocks.items c.self.invariant.0 c.args.index lt in
    let x = c.index-2.result.now in
    subst (λ (v : TieredList g.row.T.Denot). x ≡ get_or v.list c.args.index x) c.self.view_is (there.item c.index.result.now x c.index.ensures c.index-2.ensures)
