use Rattle.psched_rehearse.proofs.SettleLemmas.{then_ready, then_same}
use Rattle.psched_rehearse.proofs.rehearse.settle.Goals as goal

pub returns-clause-ready : goal.returns-clause-ready
returns-clause-ready c = then_ready c.args.held_host c.fail_at.new.self c.act.new.self c.args.clock c.fail_at.ensures c.in_ok-reply.ensures.simulated

pub returns-clause-state : goal.returns-clause-state
returns-clause-state c = then_same c.args.held_host c.fail_at.new.self c.act.new.self c.args.clock c.fail_at.ensures c.in_ok-reply.ensures.simulated
