use Rattle.std.proofs.Common.{◌≡◌, ◌++◌}
use Rattle.run_states.proofs.rows.copy_all.Given as goal

-- the rows so far are copied, and the others are left
abbrev pub invariant-loop-row : goal.invariant-loop-row
invariant-loop-row l = l.made.items ++ l.row-iterator ≡ l.fn.rows
