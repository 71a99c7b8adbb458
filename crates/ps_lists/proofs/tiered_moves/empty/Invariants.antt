use Rattle.std.proofs.Common.{◌≡◌, length}
use Rattle.ps_lists.proofs.JoinLemmas.{AreCleared}
use Rattle.ps_lists.proofs.tiered_moves.empty.Given as goal

-- the blocks so far have no items
abbrev pub invariant-loop-at : goal.invariant-loop-at
invariant-loop-at g l = record {
  cleared : AreCleared l.at l.blocks.items;
  blocks : length l.blocks.items ≡ length l.fn.blocks.items;
}
