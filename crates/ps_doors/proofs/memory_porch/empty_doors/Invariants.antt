use Rattle.std.proofs.Common.{◌≡◌, [], replicate}
use Rattle.ps_doors.specs.Door.{new_door}
use Rattle.ps_doors.proofs.memory_porch.empty_doors.Given as goal

abbrev pub invariant-loop : goal.invariant-loop
invariant-loop l = l.doors.items ≡ replicate l.counter (new_door [] [])
