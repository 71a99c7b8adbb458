use Rattle.std.proofs.Common.{arith}
use Rattle.run_states.specs.ResultBytes.{row_bytes}
use Rattle.run_states.proofs.BytesLemmas.{count_end}
use Rattle.run_states.proofs.rest.result_bytes.Goals as goal

pub returns : goal.returns
returns c = count_end row_bytes 18446744073709551615 c.args.rows.now c.loop-row.row-index c.loop-row.total _ (omega (arith, c.loop-row-test.false)) c.loop-row.invariant.bound c.loop-row.invariant.counted
