use Rattle.api_input.proofs.understand.read_open.Goals as goal

-- a schedule is within bounds on every host
pub returns-in-Schedule-clause-input : goal.returns-in-Schedule-clause-input
returns-in-Schedule-clause-input c = c.read_schedule.ensures.input c.args.config.now
