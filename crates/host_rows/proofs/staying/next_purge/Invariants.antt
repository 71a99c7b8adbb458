use Rattle.std.proofs.Common.{ℕ, ◌<◌, get_or}
use Rattle.run_states.specs.declared.row.RunRow.{RunRow}
use Rattle.host_rows.specs.Ledger.{StaysUntil}
use Rattle.host_rows.proofs.staying.next_purge.Given as goal

-- those so far stay
abbrev pub invariant-loop-place : goal.invariant-loop-place
invariant-loop-place l = (i : ℕ) (d : RunRow) → i < l.place → StaysUntil l.number l.rows.list l.next (get_or l.rows.list i d)
