use Rattle.std.proofs.Common.{◌≡◌, ◌++◌}
use Rattle.part_core.specs.Reservations.{bookings_of}
use Rattle.draft_parts.proofs.gather.add_bookings.Given as goal

-- those so far, and those of what is left
abbrev pub invariant-loop-row : goal.invariant-loop-row
invariant-loop-row l = l.made.items ++ bookings_of l.row-iterator ≡ l.fn.made.items ++ bookings_of l.fn.rows
