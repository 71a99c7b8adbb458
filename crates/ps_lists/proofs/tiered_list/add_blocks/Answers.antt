use Rattle.std.proofs.Common.{◌∙◌, arith}
use Rattle.ps_lists.proofs.JoinLemmas.{one_more}
use Rattle.ps_lists.proofs.tiered_list.add_blocks.Goals as goal

-- one block more, without items
pub loop-made-preserved : goal.loop-made-preserved
loop-made-preserved g c =
    let more = one_more c.loop-made.blocks.items c.push.new.self.items c.reserve.new.self c.in_ok-push.ensures.items c.loop-made.invariant.filled (c.reserve.ensures.same ∙ c.new-block.ensures) (omega (arith, c.in_ok-reserve.ensures.ok)) in
    record {
      filled = more.0;
      items = more.1 ∙ c.loop-made.invariant.items;
      count = omega (arith, more.2, c.loop-made.invariant.count);
      never_less = omega (arith, more.2, c.loop-made.invariant.never_less);
      bound = omega (arith, more.2, c.loop-made.invariant.count, c.loop-made-test.true);
    }
