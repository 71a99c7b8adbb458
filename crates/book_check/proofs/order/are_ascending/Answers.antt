use Rattle.std.proofs.Common.{arith}
use Rattle.book_check.proofs.OrderLemmas.{goes_on}
use Rattle.book_check.proofs.order.are_ascending.Goals as goal

pub loop-row-preserved : goal.loop-row-preserved
loop-row-preserved c = goes_on c.args.rows.now c.loop-row.row-index c.row-item.result (omega arith) c.row-item.is c.loop-row.before c.loop-row.invariant (c.is_above.ensures.0 c.if-not-is_above.false)
