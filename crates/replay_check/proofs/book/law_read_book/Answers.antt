use Rattle.replay_check.proofs.BookLemmas.{first_read, second_read}
use Rattle.replay_check.proofs.book.law_read_book.Goals as goal

pub returns-clause-second : goal.returns-clause-second
returns-clause-second c = second_read c.law_read.ensures.rows c.law_read.ensures.tasks

pub returns-clause-first : goal.returns-clause-first
returns-clause-first c = first_read c.law_read.ensures.rows c.law_read.ensures.tasks
