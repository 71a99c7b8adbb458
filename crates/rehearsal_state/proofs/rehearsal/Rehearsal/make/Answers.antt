use Rattle.std.proofs.Common.{None, ◌∙◌, ap}
use Rattle.rehearsal_model.specs.Simulations.{outcome_by}
use Rattle.rehearsal_state.proofs.RehearsalLemmas.{acts_outcome, acts_on}
use Rattle.rehearsal_state.proofs.rehearsal.Rehearsal.make.Goals as goal

pub returns-clause-outcome : goal.returns-clause-outcome
returns-clause-outcome c =
    c.answer_of.ensures ∙ (ap (outcome_by None) c.in_ok-reply.ensures.reply ∙ acts_outcome c.args.self.now c.args.place c.args.clock c.args.input c.requires.stop)

pub returns-clause-simulation : goal.returns-clause-simulation
returns-clause-simulation c = c.in_ok-reply.ensures.simulation ∙ acts_on c.args.self.now c.args.place c.args.clock c.args.input c.requires.stop
