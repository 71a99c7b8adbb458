use Rattle.std.proofs.Common.{arith}
use Rattle.host_gate.proofs.Moves.{draws}
use Rattle.host_gate.proofs.turn.draw.Goals as goal

pub compare_exchange-requires : goal.compare_exchange-requires
compare_exchange-requires g c = let r = c.requires in
    (r.table.0, omega (arith, r.table.1), draws g.K.Kept.grown g.met.K.Kept.grown_refl g.met.K.Kept.grown_trans _ _ _ _ r.outside r.bound)
