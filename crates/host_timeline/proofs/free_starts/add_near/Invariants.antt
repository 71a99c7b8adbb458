use Rattle.std.proofs.Common.{◌≡◌, ◌++◌}
use Rattle.std.specs.List.{filter}
use Rattle.host_timeline.specs.Sweep.{is_near}
use Rattle.host_timeline.proofs.free_starts.add_near.Given as goal

-- those so far, and those of what is left
abbrev pub invariant-loop-booking : goal.invariant-loop-booking
invariant-loop-booking l = l.fn.near.items ++ filter (is_near l.class l.length l.window) l.fn.bookings ≡ l.near.items ++ filter (is_near l.class l.length l.window) l.booking-iterator
