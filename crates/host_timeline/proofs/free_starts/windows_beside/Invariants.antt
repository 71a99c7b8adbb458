use Rattle.std.proofs.Common.{◌≡◌, ◌++◌, ◌≤◌, drop, length, take}
use Rattle.ps_time.specs.Numbers.{most_intervals}
use Rattle.host_timeline.specs.Sweep.{gaps}
use Rattle.host_timeline.proofs.free_starts.windows_beside.Given as goal

-- the windows so far, and those of what is left
abbrev pub invariant-loop-booking : goal.invariant-loop-booking
invariant-loop-booking l = record {
  bound : length l.windows ≤ most_intervals;
  left : take most_intervals (gaps l.length l.window.last l.fn.bookings l.fn.window.first) ≡ take most_intervals (l.windows ++ gaps l.length l.window.last (drop l.booking-index l.bookings) l.from);
}
