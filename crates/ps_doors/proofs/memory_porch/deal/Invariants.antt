use Rattle.std.proofs.Common.{length}
use Rattle.ps_doors.proofs.DealLemmas.{Left}
use Rattle.ps_doors.proofs.memory_porch.deal.Given as goal

-- some streams were dealt, and the rest is left
abbrev pub invariant-loop : goal.invariant-loop
invariant-loop l = Left (length l.fn.doors) l.count l.fn.guests.items l.at l.counter l.guests.items l.doors
