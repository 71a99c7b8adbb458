use Rattle.std.proofs.Common.{arith, refl}
use Rattle.host_model.specs.LawfulRow.{IsHostRow}
use Rattle.row_check.proofs.AllLeft.{all_done, goes_on}
use Rattle.book_check.proofs.host_row.are_host_rows.Goals as goal

pub loop-row-preserved : goal.loop-row-preserved
loop-row-preserved c = goes_on (IsHostRow c.args.number c.args.tasks.now c.args.moment) c.args.rows.now c.loop-row.row-index c.row-item.result (omega arith) c.row-item.is (c.in_ok-is.ensures.0 c.if-not-is.false) c.loop-row.invariant

pub returns : goal.returns
returns c = (
  λ is. all_done (IsHostRow c.args.number c.args.tasks.now c.args.moment) c.args.rows.now c.loop-row.row-index (omega (arith, c.loop-row-test.false)) c.loop-row.invariant,
  λ all. refl,
)
