use Rattle.host_codec.proofs.WritableLemmas.{lawful_written}
use Rattle.host_codec.proofs.book.law_writable_book.Goals as goal

pub returns : goal.returns
returns c = lawful_written
