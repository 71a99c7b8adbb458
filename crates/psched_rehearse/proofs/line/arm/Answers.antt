use Rattle.rehearsal_lines.proofs.ResultLemmas.{on_ok}
use Rattle.psched_rehearse.proofs.line.arm.Goals as goal

pub returns-clause-simulation : goal.returns-clause-simulation
returns-clause-simulation c = λ hosts. on_ok c.add_said.result (c.in_ok-arm.ensures hosts)
