use Rattle.api_peer.proofs.BodyLemmas.{question_back}
use Rattle.api_peer.proofs.body.write_question.Goals as goal

pub returns-clause-reads : goal.returns-clause-reads
returns-clause-reads c = question_back c.args.question.now c.in_ok-key.ensures.reads c.priority_value.ensures.reads (c.law_test.ensures c.args.question.now.test c.requires)
