use Rattle.std.proofs.Common.{◌≡◌, ◌≤◌, drop}
use Rattle.host_rows.specs.Deadlines.{due_keys}
use Rattle.host_book.specs.Reservations.{released}
use Rattle.host_book.proofs.indexed.release_lapsed.Given as goal

-- what is left still goes, and places only come
abbrev pub invariant-loop-place : goal.invariant-loop-place
invariant-loop-place l = record {
  left : released l.moment l.rows.list (due_keys l.moment l.deadlines.list) l.initial.timeline.list ≡ released l.moment l.rows.list (due_keys l.moment (drop l.place l.deadlines.list)) l.timeline.list;
  room : l.initial.timeline.room ≤ l.timeline.room;
}
