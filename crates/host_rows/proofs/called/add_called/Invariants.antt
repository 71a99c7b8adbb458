use Rattle.std.proofs.Common.{◌≡◌, drop}
use Rattle.host_rows.specs.Called.{last_deadline, with_called}
use Rattle.host_rows.specs.Deadlines.{due_keys}
use Rattle.host_rows.proofs.called.add_called.Given as goal

-- what is left decides
abbrev pub invariant-loop-place : goal.invariant-loop-place
invariant-loop-place l =
    with_called l.moment l.rows.list (due_keys (last_deadline l.moment) l.deadlines.list) l.initial.keys.list
    ≡ with_called l.moment l.rows.list (due_keys (last_deadline l.moment) (drop l.place l.deadlines.list)) l.keys.list
