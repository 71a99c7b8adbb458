use Rattle.rehearsal_lines.proofs.archive.make_first.Goals as goal

pub returns-in_ok-input-in-Some-clause-input : goal.returns-in_ok-input-in-Some-clause-input
returns-in_ok-input-in-Some-clause-input g c = λ config. c.in_ok-input-in-Some.ensures.input config
