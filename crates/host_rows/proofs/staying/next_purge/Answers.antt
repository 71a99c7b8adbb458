use Rattle.std.proofs.Common.{arith}
use Rattle.host_rows.proofs.StayLemmas.{one_more_stays}
use Rattle.host_rows.proofs.staying.next_purge.Goals as goal

-- one more row stays
pub loop-place-preserved : goal.loop-place-preserved
loop-place-preserved c = one_more_stays c.args.number c.args.rows.now.list c.in_order-known.ensures.ascending c.loop-place.place c.loop-place.next c.sooner-next.result c.sooner-next.ensures.earlier (omega arith) c.loop-place.invariant c.sooner-next.ensures.stays
