use Rattle.std.proofs.Common.{All}
use Rattle.ps_doors.specs.Door.{HasShortAddress}
use Rattle.port_tests.proofs.door_tests.guests.Given as goal

abbrev pub invariant-loop-byte : goal.invariant-loop-byte
invariant-loop-byte l = All HasShortAddress l.guests.items
