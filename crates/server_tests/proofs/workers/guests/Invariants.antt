use Rattle.std.proofs.Common.{All}
use Rattle.ps_doors.specs.Door.{HasShortAddress}
use Rattle.server_tests.proofs.workers.guests.Given as goal

abbrev pub invariant-loop-byte : goal.invariant-loop-byte
invariant-loop-byte l = All HasShortAddress l.guests.items
