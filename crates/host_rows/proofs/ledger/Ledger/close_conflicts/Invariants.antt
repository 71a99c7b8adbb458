use Rattle.std.proofs.Common.{◌≡◌, ◌≤◌, length}
use Rattle.host_timeline.specs.Booking.{conflicting_after, keys_of}
use Rattle.host_rows.specs.Closing.{closed_each, closed_keys}
use Rattle.host_rows.proofs.ledger.Ledger.close_conflicts.Given as goal

-- the keys above the last one still close, and places stay
abbrev pub invariant-loop-key : goal.invariant-loop-key
invariant-loop-key l = record {
  left : closed_each l.moment l.run.key l.run.class l.run.interval l.timeline.list l.initial.self.list ≡ closed_keys l.moment l.run.key (keys_of (conflicting_after l.run.class l.run.interval l.last l.timeline.list)) l.self.list;
  number : l.self.number ≡ l.initial.self.number;
  room : l.initial.self.room ≤ l.self.room;
}

abbrev pub decreases-loop-key : goal.decreases-loop-key
decreases-loop-key l = length (keys_of (conflicting_after l.run.class l.run.interval l.last l.timeline.list))
