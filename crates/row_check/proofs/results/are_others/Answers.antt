use Rattle.std.proofs.Common.{arith}
use Rattle.run_states.specs.LawfulRow.{IsOther}
use Rattle.row_check.proofs.AllLeft.{goes_on}
use Rattle.row_check.proofs.results.are_others.Goals as goal

pub loop-other-preserved : goal.loop-other-preserved
loop-other-preserved c = goes_on IsOther c.args.others.now c.loop-other.other-index c.other-item.result (omega arith) c.other-item.is (c.in_ok-is.ensures.0 c.if-not-is.false) c.loop-other.invariant
