use Rattle.std.proofs.Common.{◌∙◌, ap}
use Rattle.rehearsal_model.specs.Simulations.{at_last}
use Rattle.rehearsal_generate.specs.Work.{posted}
use Rattle.rehearsal_generate.proofs.moves.post.Goals as goal

pub returns-clause-simulation : goal.returns-clause-simulation
unfolding posted
returns-clause-simulation c = λ hosts. c.advance.ensures ∙ ap (at_last c.args.clock) (c.in_ok-ask_for.ensures.simulation hosts)
