use Rattle.std.proofs.Common.{arith}
use Rattle.ps_time.proofs.DigitLemmas.{styled_two, styled_four}
use Rattle.ps_time.proofs.moment_text.ShownDateDisplay.fmt.Goals as goal

pub returns-clause-writes : goal.returns-clause-writes
returns-clause-writes g c =
    let d = c.args.self.now in
    rw (c.laid_out.ensures, c.laid_out-2.ensures, c.laid_out-3.ensures, styled_four d.year (omega arith) (omega arith), styled_two d.month (omega arith), styled_two d.day (omega arith)) at c.write.ensures.writes
