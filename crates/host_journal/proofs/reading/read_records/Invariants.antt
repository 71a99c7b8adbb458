use Rattle.std.proofs.Common.{length}
use Rattle.host_journal.proofs.FormatLemmas.{Walking}
use Rattle.host_journal.proofs.reading.read_records.Given as goal

abbrev pub invariant-loop-behind : goal.invariant-loop-behind
invariant-loop-behind l = Walking l.fn.list l.list l.gate_bytes l.rest

abbrev pub decreases-loop-behind : goal.decreases-loop-behind
decreases-loop-behind l = length l.rest
