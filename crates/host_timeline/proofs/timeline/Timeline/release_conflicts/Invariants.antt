use Rattle.std.proofs.Common.{◌≡◌, ◌≤◌, length}
use Rattle.host_timeline.specs.Booking.{without_conflicts}
use Rattle.host_timeline.proofs.timeline.Timeline.release_conflicts.Given as goal

-- those that don't conflict are the same, and places stay
abbrev pub invariant-loop-key : goal.invariant-loop-key
invariant-loop-key l = record {
  left : without_conflicts l.class l.interval l.self.list ≡ without_conflicts l.class l.interval l.initial.self.list;
  room : l.initial.self.room ≤ l.self.room;
}

abbrev pub decreases-loop-key : goal.decreases-loop-key
decreases-loop-key l = length l.self.list
