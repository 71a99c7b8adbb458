use Rattle.std.proofs.Common.{subst}
use Rattle.host_gate.specs.Plays.{Sat, TakesTurn}
use Rattle.host_gate.proofs.turn.wait.Goals as goal

pub returns-then-serving-ticket-clause-served : goal.returns-then-serving-ticket-clause-served
returns-then-serving-ticket-clause-served g c = subst (λ (before : Sat g.row.K.Denot). TakesTurn g.K.Kept.grown c.args.ticket before c.look-serving.new.seat.me) c.loop.invariant.1 (c.look-serving.ensures.served c.if-serving-ticket.true)
