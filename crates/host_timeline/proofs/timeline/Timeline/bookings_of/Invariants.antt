use Rattle.std.proofs.Common.{◌≡◌, ◌++◌, drop}
use Rattle.std.specs.List.{filter_map}
use Rattle.host_timeline.specs.Timeline.{find_booking}
use Rattle.host_timeline.proofs.timeline.Timeline.bookings_of.Given as goal

-- those so far, and those of the keys that are left
abbrev pub invariant-loop-key : goal.invariant-loop-key
invariant-loop-key l = l.made.items ++ filter_map (find_booking l.self.list) (drop l.key-index l.keys) ≡ filter_map (find_booking l.fn.self.list) l.fn.keys
