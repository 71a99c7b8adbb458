use Rattle.host_codec.specs.Books.{pair}
use Rattle.host_codec.proofs.EachLemmas.{AreWritten}
use Rattle.host_codec.proofs.book.write_each_pair.Given as goal

abbrev pub invariant-loop-pair : goal.invariant-loop-pair
invariant-loop-pair l = AreWritten pair l.fn.pairs l.fn.out.items l.out.items l.pair-iterator
