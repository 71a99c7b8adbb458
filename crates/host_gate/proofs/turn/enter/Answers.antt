use Rattle.std.proofs.Common.{refl, le_refl}
use Rattle.host_gate.proofs.turn.enter.Goals as goal

pub loop-init : goal.loop-init
loop-init g c = (refl, (c.args.seat.now.me.0.read, le_refl _, refl))
