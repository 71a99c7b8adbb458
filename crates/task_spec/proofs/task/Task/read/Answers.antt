use Rattle.task_spec.proofs.task.Task.read.Goals as goal

pub returns-clause-participants : goal.returns-clause-participants
returns-clause-participants c = λ named. c.law_participants.ensures c.in_ok-test.test c.args.lead.now c.in_ok-test.ensures.bounds named
