use Rattle.std.proofs.Common.{◌≡◌, ℕ, ◌≤◌, ◌<◌, ◌++◌, length, get_or, take, drop, map}
use Rattle.run_states.specs.declared.row.RunRow.{RunRow}
use Rattle.run_states.specs.Life.{settled_row, HasMoments}
use Rattle.run_states.proofs.rows.settle_all.Given as goal

-- the rows so far are settled, and those that are left are as they were
abbrev pub invariant-loop-at : goal.invariant-loop-at
invariant-loop-at l = record {
  settled : map (settled_row l.moment) l.initial.rows.list ≡ take l.at l.rows.list ++ map (settled_row l.moment) (drop l.at l.rows.list);
  left : (k : ℕ) (d : RunRow) → l.at ≤ k → k < length l.rows.list → HasMoments (get_or l.rows.list k d);
  all : length l.rows.list ≡ length l.initial.rows.list;
  places : l.rows.places ≡ l.initial.rows.places;
}
