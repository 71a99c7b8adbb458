use Rattle.std.proofs.Common.{arith}
use Rattle.host_gate.proofs.Moves.{ends}
use Rattle.host_gate.proofs.turn.end.Goals as goal

pub fetch_add-requires : goal.fetch_add-requires
fetch_add-requires g c = let r = c.requires in
    (r.table.0, omega (arith, r.table.1), ends g.K.Kept.grown g.met.K.Kept.grown_refl g.met.K.Kept.grown_trans _ _ _ r.left.0 r.left.1 r.left.2 r.left.3)
