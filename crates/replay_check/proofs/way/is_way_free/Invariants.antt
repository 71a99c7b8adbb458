use Rattle.std.specs.Prelude.{◌↔◌, None}
use Rattle.std.proofs.Common.{All, length}
use Rattle.host_timeline.specs.Booking.{conflicting_after, keys_of}
use Rattle.replay_check.specs.Way.{IsWaiting}
use Rattle.replay_check.proofs.way.is_way_free.Given as goal

-- the keys above the last one decide
abbrev pub invariant-loop-key : goal.invariant-loop-key
invariant-loop-key l = All (IsWaiting l.rows.list) (keys_of (conflicting_after l.class l.interval l.last l.timeline.list)) ↔ All (IsWaiting l.rows.list) (keys_of (conflicting_after l.class l.interval None l.timeline.list))

abbrev pub decreases-loop-key : goal.decreases-loop-key
decreases-loop-key l = length (keys_of (conflicting_after l.class l.interval l.last l.timeline.list))
