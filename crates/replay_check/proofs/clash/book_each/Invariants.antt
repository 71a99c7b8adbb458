use Rattle.std.proofs.Common.{◌≡◌, ◌≤◌, ◌+◌, length, take}
use Rattle.part_core.specs.Reservations.{bookings_of}
use Rattle.replay_check.proofs.clash.book_each.Given as goal

-- what the rows so far reserve, and places for those that are left
abbrev pub invariant-loop-row : goal.invariant-loop-row
invariant-loop-row l = record {
  list : l.timeline.list ≡ bookings_of (take l.row-index l.rows);
  room : length l.rows ≤ l.timeline.room + l.row-index;
}
