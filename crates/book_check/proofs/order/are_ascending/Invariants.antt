use Rattle.std.specs.Prelude.{◌↔◌}
use Rattle.std.proofs.Common.{drop}
use Rattle.run_states.specs.Rows.{IsAscendingRows}
use Rattle.book_check.specs.Order.{AreAbove}
use Rattle.book_check.proofs.order.are_ascending.Given as goal

-- what is left decides
abbrev pub invariant-loop-row : goal.invariant-loop-row
invariant-loop-row l = AreAbove l.before (drop l.row-index l.rows) ↔ IsAscendingRows l.rows
