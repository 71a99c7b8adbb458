use Rattle.std.proofs.Common.{◌≡◌, ◌++◌, All}
use Rattle.std.specs.Vec.Iter.{into_iter_items}
use Rattle.host_book.specs.Ready.{IsReady, changes_of}
use Rattle.host_book.proofs.preparing.each_ready.Given as goal

-- what is left is still to come
abbrev pub invariant-loop-change : goal.invariant-loop-change
invariant-loop-change l = record {
  can_next : (goal.iterator-loop-change).can_next l.change-iterator;
  is_finite : (goal.iterator-loop-change).is_finite l.change-iterator;
  changes : l.fn.list ≡ changes_of l.made.items ++ into_iter_items l.change-iterator;
  ready : All IsReady l.made.items;
}
