use Rattle.std.proofs.Common.{◌∙◌, subst, rules, arith}
use Rattle.ps_lists.specs.TieredList.{IsOpenAt}
use Rattle.ps_lists.proofs.tiered_moves.make_room.Goals as goal

pub move_on-requires : goal.move_on-requires
move_on-requires g c = subst (λ n. IsOpenAt n c.loop-moved.blocks.items) (omega arith) c.loop-moved.invariant.room

pub loop-moved-init : goal.loop-moved-init
loop-moved-init g c = record { room = subst (λ n. IsOpenAt n c.args.blocks.now.items) (omega arith) c.requires.room; items = search rules; blocks = search rules }

pub loop-moved-preserved : goal.loop-moved-preserved
loop-moved-preserved g c = record {
  room = subst (λ n. IsOpenAt n c.move_on.new.blocks.items) (omega arith) c.move_on.ensures.room;
  items = c.move_on.ensures.items ∙ c.loop-moved.invariant.items;
  blocks = c.move_on.ensures.blocks ∙ c.loop-moved.invariant.blocks;
}

pub returns-clause-room : goal.returns-clause-room
returns-clause-room g c = subst (λ n. IsOpenAt n c.loop-moved.blocks.items) (omega arith) c.loop-moved.invariant.room
