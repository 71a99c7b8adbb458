use Rattle.std.proofs.Common.{◌≡◌, ◌≤◌, ◌++◌, drop, length}
use Rattle.host_rows.specs.Still.{live_keys}
use Rattle.host_rows.proofs.live_keys.fill.Given as goal

-- the keys so far, and those of the rows that are left; no more than the rows so far
abbrev pub invariant-loop-row : goal.invariant-loop-row
invariant-loop-row l = record {
  all : live_keys l.number l.rows ≡ l.keys.list ++ live_keys l.number (drop l.row-index l.rows);
  few : length l.keys.list ≤ l.row-index;
  places : l.initial.keys.places ≤ l.keys.places;
}
