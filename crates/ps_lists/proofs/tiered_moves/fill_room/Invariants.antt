use Rattle.std.proofs.Common.{◌≡◌, length}
use Rattle.ps_lists.specs.TieredList.{joined, IsOpenAt}
use Rattle.ps_lists.proofs.tiered_moves.fill_room.Given as goal

-- what is held is the same, and there is room in a later block
abbrev pub invariant-loop-at : goal.invariant-loop-at
invariant-loop-at g l = record {
  room : IsOpenAt l.at l.blocks.items;
  items : joined l.blocks.items ≡ joined l.fn.blocks.items;
  blocks : length l.blocks.items ≡ length l.fn.blocks.items;
}
