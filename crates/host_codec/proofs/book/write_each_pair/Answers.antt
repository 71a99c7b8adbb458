use Rattle.host_codec.specs.Books.{pair}
use Rattle.host_codec.proofs.EachLemmas.{all_fit, next_written}
use Rattle.host_codec.proofs.book.write_each_pair.Goals as goal

pub loop-pair-preserved : goal.loop-pair-preserved
loop-pair-preserved c =
    next_written pair c.args.pairs c.args.out.now.items c.in-Some.pair.now c.next.new.self c.loop-pair.pair-iterator c.loop-pair.out.items c.write.new.out.items
    c.in-Some.ensures.steps c.in_ok-write.ensures.code c.in_ok-write.ensures.fits c.loop-pair.invariant

pub returns-clause-fit : goal.returns-clause-fit
returns-clause-fit c = all_fit pair c.args.pairs c.args.out.now.items c.loop-pair.pair-iterator c.loop-pair.out.items c.in-None.ensures.steps.0 c.loop-pair.invariant
