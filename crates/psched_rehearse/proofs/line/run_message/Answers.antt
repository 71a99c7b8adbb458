use Rattle.psched_rehearse.proofs.line.run_message.Goals as goal

pub returns-in-Lose-clause-simulation : goal.returns-in-Lose-clause-simulation
returns-in-Lose-clause-simulation c = rw c.in-Lose.is (λ comes. c.lose.ensures.simulation c.args.hosts.now)
