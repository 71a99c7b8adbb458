use Rattle.std.proofs.Common.{◌∙◌}
use Rattle.rehearsal_state.proofs.MoveLemmas.{tried}
use Rattle.rehearsal_lines.proofs.ResultLemmas.{on_ok}
use Rattle.rehearsal_lines.proofs.archive.tell.Goals as goal

pub returns-in-Answered-clause-simulation : goal.returns-in-Answered-clause-simulation
returns-in-Answered-clause-simulation c = λ hosts. on_ok c.add_archive-added.result (c.in_ok-reply.ensures.simulation ∙ tried hosts c.args.now.now c.args.place c.args.clock c.args.input)

pub returns-in-Faulted-clause-simulation : goal.returns-in-Faulted-clause-simulation
returns-in-Faulted-clause-simulation c = λ hosts. on_ok c.add_said.result (c.in_ok-reply.ensures.simulation ∙ tried hosts c.args.now.now c.args.place c.args.clock c.args.input)

pub returns-in-Crashed-clause-simulation : goal.returns-in-Crashed-clause-simulation
returns-in-Crashed-clause-simulation c = λ hosts. on_ok c.add_said-in-Crashed.result (c.in_ok-reply.ensures.simulation ∙ tried hosts c.args.now.now c.args.place c.args.clock c.args.input)
