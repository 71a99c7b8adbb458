use Rattle.api_answer.proofs.FreeLemmas.{free_short}
use Rattle.api_answer.proofs.told.end_free.Goals as goal

pub returns-clause-short : goal.returns-clause-short
returns-clause-short c = free_short c.args.answer c.requires.tools c.requires.first c.requires.second
