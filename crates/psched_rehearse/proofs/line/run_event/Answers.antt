use Rattle.psched_rehearse.proofs.line.run_event.Goals as goal

pub returns-in-Turn-clause-report : goal.returns-in-Turn-clause-report
returns-in-Turn-clause-report c = rw c.in-Turn.is (λ comes. c.take_turn.ensures.report)

pub returns-in-Turn-clause-simulation : goal.returns-in-Turn-clause-simulation
returns-in-Turn-clause-simulation c = rw c.in-Turn.is (λ comes. c.take_turn.ensures.simulation)

pub returns-in-Tools-clause-simulation : goal.returns-in-Tools-clause-simulation
returns-in-Tools-clause-simulation c = rw c.in-Tools.is (λ comes. c.retool.ensures.simulation c.args.hosts.now)

pub returns-in-Crash-clause-simulation : goal.returns-in-Crash-clause-simulation
returns-in-Crash-clause-simulation c = rw c.in-Crash.is (λ comes. c.arm.ensures.simulation c.args.hosts.now)

pub returns-in-Fail-clause-simulation : goal.returns-in-Fail-clause-simulation
returns-in-Fail-clause-simulation c = rw c.in-Fail.is (λ comes. c.fail.ensures.simulation c.args.hosts.now)
