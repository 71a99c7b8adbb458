use Rattle.host_input_trials.proofs.inputs.a_run.Goals as goal

pub returns : goal.returns
returns c = record { bounds = c.a_booking.ensures.bounds c.args.config.now }
