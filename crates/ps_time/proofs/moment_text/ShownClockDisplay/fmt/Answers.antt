use Rattle.std.proofs.Common.{◌/◌, ◌%◌, arith}
use Rattle.ps_time.proofs.DigitLemmas.{styled_two}
use Rattle.ps_time.proofs.moment_text.ShownClockDisplay.fmt.Goals as goal

pub returns-clause-writes : goal.returns-clause-writes
returns-clause-writes g c =
    let s = c.args.self.now.second in
    rw (c.laid_out.ensures, c.laid_out-2.ensures, c.laid_out-3.ensures, styled_two (s / 3_600) (omega arith), styled_two (s % 3_600 / 60) (omega arith), styled_two (s % 60) (omega arith)) at c.write.ensures.writes
