use Rattle.replay_check.proofs.ReadLemmas.{first_read, second_read}
use Rattle.replay_check.proofs.record.law_read_record.Goals as goal

pub returns-clause-second : goal.returns-clause-second
returns-clause-second c = second_read

pub returns-clause-first : goal.returns-clause-first
returns-clause-first c = first_read
