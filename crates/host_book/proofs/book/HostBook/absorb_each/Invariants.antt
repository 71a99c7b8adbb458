use Rattle.std.proofs.Common.{◌≡◌, ◌≤◌, ◌+◌, length}
use Rattle.std.specs.Vec.Iter.{into_iter_items}
use Rattle.host_model.specs.Apply.{apply_all}
use Rattle.host_book.specs.Ready.{CanMakeAll, changes_of}
use Rattle.host_book.proofs.book.HostBook.absorb_each.Given as goal

-- the changes that are left fit, have room, and lead to the same book
abbrev pub invariant-loop-ready : goal.invariant-loop-ready
invariant-loop-ready l = record {
  can_next : (goal.iterator-loop-ready).can_next l.ready-iterator;
  is_finite : (goal.iterator-loop-ready).is_finite l.ready-iterator;
  number : l.self.number ≡ l.initial.self.number;
  moment : l.self.book.moment ≡ l.moment;
  fit : CanMakeAll l.self.number l.moment (into_iter_items l.ready-iterator) l.self.book;
  book : apply_all l.moment (changes_of l.fn.list) l.initial.self.book ≡ apply_all l.moment (changes_of (into_iter_items l.ready-iterator)) l.self.book;
  room : l.initial.self.room + length (into_iter_items l.ready-iterator) ≤ l.self.room + length l.fn.list;
  enough : length (into_iter_items l.ready-iterator) ≤ l.self.room;
}
