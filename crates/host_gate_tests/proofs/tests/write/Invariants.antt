use Rattle.std.proofs.Common.{◌≡◌}
use Rattle.host_gate_tests.proofs.tests.write.Given as goal

abbrev pub invariant-loop-number : goal.invariant-loop-number
invariant-loop-number g l = l.pass.gate ≡ l.gate
