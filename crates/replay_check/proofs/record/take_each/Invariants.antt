use Rattle.std.specs.Prelude.{◌↔◌}
use Rattle.std.specs.Vec.Iter.{into_iter_items}
use Rattle.std.proofs.Common.{◌≡◌, ◌≤◌, All, length}
use Rattle.host_model.specs.Apply.{apply_all}
use Rattle.host_model.specs.MayFollow.{CanApplyAll}
use Rattle.replay_check.specs.ReadChange.{IsReadChange}
use Rattle.replay_check.proofs.record.take_each.Given as goal

-- the changes that are left decide, have room, and lead to the same book
abbrev pub invariant-loop-change : goal.invariant-loop-change
invariant-loop-change l = record {
  can_next : (goal.iterator-loop-change).can_next l.change-iterator;
  is_finite : (goal.iterator-loop-change).is_finite l.change-iterator;
  number : l.book.number ≡ l.number;
  moment : l.book.book.moment ≡ l.initial.book.book.moment;
  read : All IsReadChange (into_iter_items l.change-iterator);
  may : CanApplyAll l.number l.initial.book.book.moment (into_iter_items l.change-iterator) l.book.book ↔ CanApplyAll l.number l.initial.book.book.moment l.fn.list l.initial.book.book;
  book : apply_all l.initial.book.book.moment (into_iter_items l.change-iterator) l.book.book ≡ apply_all l.initial.book.book.moment l.fn.list l.initial.book.book;
  enough : length (into_iter_items l.change-iterator) ≤ l.book.room;
}
