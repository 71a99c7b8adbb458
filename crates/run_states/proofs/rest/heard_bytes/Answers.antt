use Rattle.std.proofs.Common.{arith}
use Rattle.run_states.specs.ResultBytes.{bytes_in, other_result}
use Rattle.run_states.proofs.BytesLemmas.{count_end}
use Rattle.run_states.proofs.rest.heard_bytes.Goals as goal

pub returns : goal.returns
returns c = count_end (λ o. bytes_in (other_result o)) 18446744073709551615 c.args.others.now c.loop-other.other-index c.loop-other.total _ (omega (arith, c.loop-other-test.false)) c.loop-other.invariant.bound c.loop-other.invariant.counted
