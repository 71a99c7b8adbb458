use Rattle.std.proofs.Common.{◌≡◌, ◌≤◌, ℕ}
use Rattle.host_gate.proofs.turn.enter.Given as goal

abbrev pub invariant-loop : goal.invariant-loop
invariant-loop g l = (l.seat.table_id ≡ l.fn.seat.table_id) × ((n : ℕ) × (l.fn.seat.me.0.read ≤ n) × (l.seat.me ≡ (record l.fn.seat.me.0 { read = n }, l.fn.seat.me.1)))
