use Rattle.std.proofs.Common.{ap, sym, subst, ◌∙◌}
use Rattle.host_model.specs.Apply.{apply}
use Rattle.host_model.specs.Book.{Book}
use Rattle.host_model.specs.Lawful.{Lawful}
use Rattle.host_model.specs.MayFollow.{CanApply}
use Rattle.host_model.specs.declared.change.Change.TheVariants.{Ended}
use Rattle.host_book.specs.Host.{Host}
use Rattle.host_book.proofs.BookLemmas.{ended_sound}
use Rattle.host_book.proofs.MomentLemmas.{book_moments}
use Rattle.host_book.proofs.BringLemmas.{end_brings}
use Rattle.host_book.proofs.indexed.IndexedBook.end.Goals as goal

-- the rows of the book after the change have their moments in bounds
pub mark-requires-clause-moments : goal.mark-requires-clause-moments
mark-requires-clause-moments c =
    let b : Book = record { moment = c.self.inside.moment; epochs = c.self.inside.epochs.items; pairs = c.self.inside.pairs.list; tasks = c.self.inside.tasks.items; rows = c.self.inside.ledger.list } in
    let lawful : Lawful c.self.inside.number (apply b.moment (Ended c.args.key c.args.good c.args.body) b) = subst (λ (h : Host). Lawful h.number (apply h.book.moment (Ended c.args.key c.args.good c.args.body) h.book)) (sym c.self.view_is) c.requires.lawful in
    book_moments c.self.inside.number (apply b.moment (Ended c.args.key c.args.good c.args.body) b) lawful

pub mark-requires-clause-result : goal.mark-requires-clause-result
mark-requires-clause-result c =
    let b : Book = record { moment = c.self.inside.moment; epochs = c.self.inside.epochs.items; pairs = c.self.inside.pairs.list; tasks = c.self.inside.tasks.items; rows = c.self.inside.ledger.list } in
    let lawful : Lawful c.self.inside.number (apply b.moment (Ended c.args.key c.args.good c.args.body) b) = subst (λ (h : Host). Lawful h.number (apply h.book.moment (Ended c.args.key c.args.good c.args.body) h.book)) (sym c.self.view_is) c.requires.lawful in
    let can : CanApply b (Ended c.args.key c.args.good c.args.body) = subst (λ (h : Host). CanApply h.book (Ended c.args.key c.args.good c.args.body)) (sym c.self.view_is) c.requires.can in
    end_brings c.self.inside.number b.tasks b.moment b.rows c.args.key (record { moment = b.moment; good = c.args.good; body = c.args.body }) can lawful.rows

pub invariant_of-self : goal.invariant_of-self
invariant_of-self c =
    let b : Book = record { moment = c.self.inside.moment; epochs = c.self.inside.epochs.items; pairs = c.self.inside.pairs.list; tasks = c.self.inside.tasks.items; rows = c.self.inside.ledger.list } in
    let lawful : Lawful c.self.inside.number (apply b.moment (Ended c.args.key c.args.good c.args.body) b) = subst (λ (h : Host). Lawful h.number (apply h.book.moment (Ended c.args.key c.args.good c.args.body) h.book)) (sym c.self.view_is) c.requires.lawful in
    (rw c.mark.ensures.rows (ended_sound c.self.inside.number b c.self.inside.timeline.list c.self.invariant.0 c.args.key (record { moment = b.moment; good = c.args.good; body = c.args.body }) lawful), c.mark.ensures.number ∙ c.self.invariant.1)

pub returns-clause-book : goal.returns-clause-book
returns-clause-book c =
    ap (λ l. record { moment = c.self.inside.moment; epochs = c.self.inside.epochs.items; pairs = c.self.inside.pairs.list; tasks = c.self.inside.tasks.items; rows = l }) c.mark.ensures.rows
    ∙ ap (λ (h : Host). apply h.book.moment (Ended c.args.key c.args.good c.args.body) h.book) c.self.view_is
