use Rattle.std.proofs.Common.{◌∙◌, ap}
use Rattle.rehearsal_model.specs.Simulations.{at_last}
use Rattle.rehearsal_generate.proofs.moves.take_turn.Goals as goal

pub returns : goal.returns
returns c = λ hosts. c.advance.ensures ∙ ap (at_last c.args.clock) (c.in_ok-outcome.ensures.simulation hosts)
