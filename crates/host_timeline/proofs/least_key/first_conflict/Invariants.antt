use Rattle.std.proofs.Common.{◌≡◌, not}
use Rattle.std.specs.List.{list_all}
use Rattle.host_timeline.specs.Booking.{conflicts_with, is_other}
use Rattle.ps_time.specs.declared.key.RunKey.{RunKey}
use Rattle.host_timeline.proofs.least_key.first_conflict.Given as goal

-- none so far: what is left decides
abbrev pub invariant-loop-booking : goal.invariant-loop-booking
invariant-loop-booking l = record {
  none : list_all (λ b. not (conflicts_with l.class l.interval b)) l.booking-iterator ≡ list_all (λ b. not (conflicts_with l.class l.interval b)) l.fn.bookings;
  others : (key : RunKey) → list_all (is_other l.class l.interval key) l.booking-iterator ≡ list_all (is_other l.class l.interval key) l.fn.bookings;
}
