use Rattle.std.proofs.Common.{◌∙◌, ◌++◌, All, ap, flat_map, subst}
use Rattle.std.proofs.lemmas.List.{take_all}
use Rattle.std.proofs.lemmas.List.Elements.{All-more}
use Rattle.value_bytes.proofs.Loop.{written_more}
use Rattle.byte_codec.proofs.lists.write_each.Goals as goal

pub loop-item-preserved : goal.loop-item-preserved
loop-item-preserved g c = (
  written_more g.T.Coded.codec.code c.args.items.now c.loop-item.item-index c.item-item.result c.args.out.now.items c.loop-item.out.items c.write.new.out.items
      c.loop-item-test.true c.item-item.is c.loop-item.invariant.0 c.in_ok-write.ensures.code,
  All-more g.T.Coded.codec.Fits c.args.items.now c.loop-item.item-index c.item-item.result c.loop-item-test.true c.loop-item.invariant.1
      (subst g.T.Coded.codec.Fits c.item-item.is c.in_ok-write.ensures.fits),
)

pub returns-clause-code : goal.returns-clause-code
returns-clause-code g c =
    c.loop-item.invariant.0 ∙ ap (λ xs. c.args.out.now.items ++ flat_map g.T.Coded.codec.code xs) (take_all c.loop-item.item-index c.args.items.now c.loop-item-test.false)

pub returns-clause-fit : goal.returns-clause-fit
returns-clause-fit g c = subst (All g.T.Coded.codec.Fits) (take_all c.loop-item.item-index c.args.items.now c.loop-item-test.false) c.loop-item.invariant.1
