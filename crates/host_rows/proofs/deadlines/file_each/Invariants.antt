use Rattle.std.proofs.Common.{◌+◌, ◌≤◌, All, drop, length, take}
use Rattle.host_rows.specs.Deadlines.{waiting, Waits}
use Rattle.host_rows.proofs.deadlines.file_each.Given as goal

-- those so far wait, and there are no more deadlines than those that do
abbrev pub invariant-loop-row : goal.invariant-loop-row
invariant-loop-row l = record {
  waits : All (Waits l.deadlines.list) (take l.row-index l.rows);
  few : length l.deadlines.list + waiting (drop l.row-index l.rows) ≤ waiting l.rows;
  places : l.initial.deadlines.places ≤ l.deadlines.places;
}
