use Rattle.std.proofs.Common.{length}
use Rattle.host_journal.proofs.reading.+agreeing_with.Given as goal

abbrev pub decreases-agreeing_with : goal.decreases-agreeing_with
decreases-agreeing_with l = length l.wanted.now
