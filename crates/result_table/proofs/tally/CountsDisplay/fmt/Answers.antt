use Rattle.result_table.specs.Tally.{counts_text}
use Rattle.result_table.proofs.EightLemmas.{styled_eight}
use Rattle.result_table.proofs.tally.CountsDisplay.fmt.Goals as goal

pub returns-clause-writes : goal.returns-clause-writes
unfolding counts_text
returns-clause-writes g c =
    let counts = c.args.self.now in
    (rw (c.laid_out.ensures, c.laid_out-2.ensures, c.laid_out-3.ensures, styled_eight counts.records, styled_eight counts.good, styled_eight counts.others) at c.write.ensures.writes)
