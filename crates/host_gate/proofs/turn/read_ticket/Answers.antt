use Rattle.std.proofs.Common.{arith}
use Rattle.host_gate.proofs.Moves.{reads}
use Rattle.host_gate.proofs.turn.read_ticket.Goals as goal

pub load-requires : goal.load-requires
load-requires g c = let r = c.requires in
    (r.table.0, omega (arith, r.table.1), reads g.K.Kept.grown g.met.K.Kept.grown_refl g.met.K.Kept.grown_trans _ _ _ r.outside)
