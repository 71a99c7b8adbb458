use Rattle.std.proofs.Common.{◌≡◌, ◌≤◌, length, max}
use Rattle.ps_lists.specs.TieredList.{joined, AreFilled}
use Rattle.ps_lists.proofs.tiered_list.add_blocks.Given as goal

-- no items came, and so many blocks are there
abbrev pub invariant-loop-made : goal.invariant-loop-made
invariant-loop-made g l = record {
  filled : AreFilled l.blocks.items;
  items : joined l.blocks.items ≡ joined l.fn.blocks.items;
  count : l._made ≡ length l.blocks.items;
  never_less : length l.fn.blocks.items ≤ length l.blocks.items;
  bound : length l.blocks.items ≤ max (length l.fn.blocks.items) l.count;
}
