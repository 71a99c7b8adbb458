use Rattle.std.proofs.Common.{ap, sym, subst, ◌∙◌}
use Rattle.host_model.specs.Book.{Book}
use Rattle.host_model.specs.Lawful.{Lawful}
use Rattle.host_book.specs.Host.{Host, noted}
use Rattle.host_book.proofs.BookLemmas.{noted_sound}
use Rattle.host_book.proofs.MomentLemmas.{book_moments}
use Rattle.host_book.proofs.indexed.IndexedBook.note.Goals as goal

-- the rows of the book with the fact have their moments in bounds
pub note-requires-clause-moments : goal.note-requires-clause-moments
note-requires-clause-moments c =
    let b : Book = record { moment = c.self.inside.moment; epochs = c.self.inside.epochs.items; pairs = c.self.inside.pairs.list; tasks = c.self.inside.tasks.items; rows = c.self.inside.ledger.list } in
    let lawful : Lawful c.self.inside.number (noted c.args.key c.args.fact b) = subst (λ (h : Host). Lawful h.number (noted c.args.key c.args.fact h.book)) (sym c.self.view_is) c.requires.lawful in
    book_moments c.self.inside.number (noted c.args.key c.args.fact b) lawful

pub invariant_of-self : goal.invariant_of-self
invariant_of-self c =
    let b : Book = record { moment = c.self.inside.moment; epochs = c.self.inside.epochs.items; pairs = c.self.inside.pairs.list; tasks = c.self.inside.tasks.items; rows = c.self.inside.ledger.list } in
    let lawful : Lawful c.self.inside.number (noted c.args.key c.args.fact b) = subst (λ (h : Host). Lawful h.number (noted c.args.key c.args.fact h.book)) (sym c.self.view_is) c.requires.lawful in
    (rw c.note.ensures.rows (noted_sound c.self.inside.number b c.self.inside.timeline.list c.self.invariant.0 c.args.key c.args.fact c.requires.no_plan b.moment lawful), c.note.ensures.number ∙ c.self.invariant.1)

pub returns-clause-book : goal.returns-clause-book
returns-clause-book c =
    ap (λ l. record { moment = c.self.inside.moment; epochs = c.self.inside.epochs.items; pairs = c.self.inside.pairs.list; tasks = c.self.inside.tasks.items; rows = l }) c.note.ensures.rows
    ∙ ap (λ (h : Host). noted c.args.key c.args.fact h.book) c.self.view_is
