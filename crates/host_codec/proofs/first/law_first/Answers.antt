use Rattle.host_codec.proofs.FirstLemmas.{first_book_is, first_changes_is}
use Rattle.host_codec.proofs.first.law_first.Goals as goal

pub returns-clause-record : goal.returns-clause-record
returns-clause-record c = first_changes_is

pub returns-clause-book : goal.returns-clause-book
returns-clause-book c = first_book_is
