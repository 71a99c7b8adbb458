use Rattle.std.proofs.Common.{ap, sym, subst, ◌∙◌}
use Rattle.host_model.specs.Apply.{apply}
use Rattle.host_model.specs.Book.{Book}
use Rattle.host_model.specs.Lawful.{Lawful}
use Rattle.host_model.specs.declared.change.Change.TheVariants.{Started}
use Rattle.host_book.specs.Host.{Host}
use Rattle.host_book.proofs.BookLemmas.{started_sound}
use Rattle.host_book.proofs.MomentLemmas.{book_moments}
use Rattle.host_book.proofs.indexed.IndexedBook.start.Goals as goal

-- the rows of the book after the change have their moments in bounds
pub mark-requires-clause-moments : goal.mark-requires-clause-moments
mark-requires-clause-moments c =
    let b : Book = record { moment = c.self.inside.moment; epochs = c.self.inside.epochs.items; pairs = c.self.inside.pairs.list; tasks = c.self.inside.tasks.items; rows = c.self.inside.ledger.list } in
    let lawful : Lawful c.self.inside.number (apply b.moment (Started c.args.key) b) = subst (λ (h : Host). Lawful h.number (apply h.book.moment (Started c.args.key) h.book)) (sym c.self.view_is) c.requires.lawful in
    book_moments c.self.inside.number (apply b.moment (Started c.args.key) b) lawful

pub invariant_of-self : goal.invariant_of-self
invariant_of-self c =
    let b : Book = record { moment = c.self.inside.moment; epochs = c.self.inside.epochs.items; pairs = c.self.inside.pairs.list; tasks = c.self.inside.tasks.items; rows = c.self.inside.ledger.list } in
    let lawful : Lawful c.self.inside.number (apply b.moment (Started c.args.key) b) = subst (λ (h : Host). Lawful h.number (apply h.book.moment (Started c.args.key) h.book)) (sym c.self.view_is) c.requires.lawful in
    (rw (c.mark_started.ensures.list, c.mark.ensures.rows) (started_sound c.self.inside.number b c.self.inside.timeline.list c.self.invariant.0 c.args.key b.moment lawful), c.mark.ensures.number ∙ c.self.invariant.1)

pub returns-clause-book : goal.returns-clause-book
returns-clause-book c =
    ap (λ l. record { moment = c.self.inside.moment; epochs = c.self.inside.epochs.items; pairs = c.self.inside.pairs.list; tasks = c.self.inside.tasks.items; rows = l }) c.mark.ensures.rows
    ∙ ap (λ (h : Host). apply h.book.moment (Started c.args.key) h.book) c.self.view_is
