use Rattle.std.proofs.Common.{length, ap, arith}
use Rattle.ps_lists.specs.TieredList.{TieredList}
use Rattle.ps_lists.proofs.tiered_list.TieredList.insert.Goals as goal

pub put_in-requires : goal.put_in-requires
put_in-requires g c =
    let long = ap (λ (v : TieredList g.row.T.Denot). length v.list) c.self.view_is in
    let wide = ap (λ (v : TieredList g.row.T.Denot). v.places) c.self.view_is in
    record {
      filled = c.self.invariant.0;
      count = c.self.invariant.1;
      within = omega (arith, long, c.requires.within, c.self.invariant.1);
      place = omega (arith, long, wide, c.requires.place, c.self.invariant.1);
    }
