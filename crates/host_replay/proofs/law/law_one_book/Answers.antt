use Rattle.host_replay.proofs.OneBookLemmas.{one_book}
use Rattle.host_replay.proofs.law.law_one_book.Goals as goal

pub returns : goal.returns
returns c = one_book c.law_first.ensures.record c.law_first.ensures.book
