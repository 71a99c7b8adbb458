use Rattle.std.proofs.Common.{◌≡◌, length}
use Rattle.ps_http.specs.Target.{skip_empty}
use Rattle.ps_http.proofs.target.skip_empty.Given as goal

abbrev pub invariant-loop-rest : goal.invariant-loop-rest
invariant-loop-rest l = skip_empty l.rest ≡ skip_empty l.bytes

abbrev pub decreases-loop-rest : goal.decreases-loop-rest
decreases-loop-rest l = length l.rest
