use Rattle.std.proofs.Common.{List}
use Rattle.std.specs.Vec.Iter.{into_iter_items}
use Rattle.host_model.specs.Book.{Book}
use Rattle.host_model.specs.declared.change.Change.{Change}
use Rattle.replay_check.proofs.RecordLemmas.{book_on, may_on, moment_on, read_on, room_on}
use Rattle.replay_check.proofs.record.take_each.Goals as goal

pub loop-change-preserved : goal.loop-change-preserved
loop-change-preserved c =
    let number = c.args.number in
    let first : Book = c.args.book.now.book in
    let b : Book = c.loop-change.book.book in
    let after : Book = c.take_next.new.book.book in
    let items : List Change = into_iter_items c.loop-change.change-iterator in
    let rest : List Change = into_iter_items c.next.new.self in
    let x : Change = c.in-Some.change in
    let before = c.loop-change.invariant in
    let steps = c.in-Some.ensures.steps.0 in
    let follows = c.in_ok-take_next.ensures.may.0 c.if-not-branch.false in
    let taken = c.in_ok-take_next.ensures.taken c.if-not-branch.false in
    record {
      can_next = tt;
      is_finite = tt;
      number = c.take_next.ensures.number;
      moment = moment_on number first.moment items rest c.args.list x b after first steps before.moment follows taken;
      read = read_on items rest x steps before.read;
      may = may_on number first.moment items rest c.args.list x b after first steps before.moment follows taken before.may;
      book = book_on number first.moment items rest c.args.list x b after first steps before.moment follows taken before.book;
      enough = room_on items rest x c.loop-change.book.room c.take_next.new.book.room steps before.enough (c.in_ok-take_next.ensures.room c.if-not-branch.false);
    }
