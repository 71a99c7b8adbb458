use Rattle.std.proofs.Common.{◌∙◌, ap, length, arith}
use Rattle.ps_lists.proofs.JoinLemmas.{filled_at}
use Rattle.ps_lists.proofs.tiered_moves.fill_room.Goals as goal

pub move_back-requires : goal.move_back-requires
move_back-requires g c = record { room = c.loop-at.invariant.room; more = omega (arith, c.loop-at-test.true, c.requires.above, ap length c.loop-at.invariant.items) }

pub loop-at-preserved : goal.loop-at-preserved
loop-at-preserved g c = record {
  room = c.move_back.ensures.room;
  items = c.move_back.ensures.items ∙ c.loop-at.invariant.items;
  blocks = c.move_back.ensures.blocks ∙ c.loop-at.invariant.blocks;
}

pub returns-clause-filled : goal.returns-clause-filled
returns-clause-filled g c =
    filled_at c.loop-at.at c.loop-at.blocks.items c.loop-at.invariant.room (omega (arith, c.loop-at-test.false, c.requires.below, c.requires.ordered, ap length c.loop-at.invariant.items))
