use Rattle.std.proofs.Common.{◌≡◌, ◌+◌, ◌-◌, ◌≤◌, length}
use Rattle.std.specs.List.{remove_range}
use Rattle.host_timeline.proofs.ranges.take_out.Given as goal

-- so many of them are out
abbrev pub invariant-loop-taken : goal.invariant-loop-taken
invariant-loop-taken l = record {
  list : l.ranges.list ≡ remove_range l.fn.ranges.list l.from l._taken;
  len : length l.ranges.list + (l._taken - l.from) ≡ length l.fn.ranges.list;
  places : l.ranges.places ≡ l.fn.ranges.places;
  behind : l.from ≤ l._taken;
  within : l._taken ≤ l.until;
}
