use Rattle.value_bytes.specs.Rows.{row}
use Rattle.host_codec.proofs.EachLemmas.{AreWritten}
use Rattle.host_codec.proofs.book.write_each_row.Given as goal

abbrev pub invariant-loop-row : goal.invariant-loop-row
invariant-loop-row l = AreWritten row l.fn.rows l.fn.out.items l.out.items l.row-iterator
