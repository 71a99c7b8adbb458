use Rattle.std.proofs.Common.{◌≡◌, ◌-◌, length}
use Rattle.ps_lists.specs.TieredList.{joined, IsOpenAt}
use Rattle.ps_lists.proofs.tiered_moves.make_room.Given as goal

-- what is held is the same, and there is room in an earlier block
abbrev pub invariant-loop-moved : goal.invariant-loop-moved
invariant-loop-moved g l = record {
  room : IsOpenAt (l.last - l.moved) l.blocks.items;
  items : joined l.blocks.items ≡ joined l.fn.blocks.items;
  blocks : length l.blocks.items ≡ length l.fn.blocks.items;
}
