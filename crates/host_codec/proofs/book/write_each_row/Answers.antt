use Rattle.value_bytes.specs.Rows.{row}
use Rattle.host_codec.proofs.EachLemmas.{all_fit, next_written}
use Rattle.host_codec.proofs.book.write_each_row.Goals as goal

pub loop-row-preserved : goal.loop-row-preserved
loop-row-preserved c =
    next_written row c.args.rows c.args.out.now.items c.in-Some.row.now c.next.new.self c.loop-row.row-iterator c.loop-row.out.items c.write.new.out.items
    c.in-Some.ensures.steps c.in_ok-write.ensures.code c.in_ok-write.ensures.fits c.loop-row.invariant

pub returns-clause-fit : goal.returns-clause-fit
returns-clause-fit c = all_fit row c.args.rows c.args.out.now.items c.loop-row.row-iterator c.loop-row.out.items c.in-None.ensures.steps.0 c.loop-row.invariant
