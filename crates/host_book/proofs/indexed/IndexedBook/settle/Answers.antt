use Rattle.std.proofs.Common.{◌≤◌, All, sym, subst, ◌∙◌, arith}
use Rattle.host_model.specs.Book.{Book}
use Rattle.host_rows.specs.Deadlines.{due_keys, latest, IsDue}
use Rattle.host_rows.proofs.FiledLemmas.{all_due}
use Rattle.host_book.specs.Host.{Host}
use Rattle.host_book.proofs.BookLemmas.{settled_sound}
use Rattle.host_book.proofs.indexed.IndexedBook.settle.Goals as goal

-- what is left of the reservations is that of the settled rows
pub invariant_of-self-2 : goal.invariant_of-self-2
invariant_of-self-2 c =
    let b : Book = record { moment = c.self.inside.moment; epochs = c.self.inside.epochs.items; pairs = c.self.inside.pairs.list; tasks = c.self.inside.tasks.items; rows = c.self.inside.ledger.list } in
    let later : b.moment ≤ c.args.moment = subst (λ (h : Host). h.book.moment ≤ c.args.moment) (sym c.self.view_is) c.requires.later in
    let within : c.args.moment ≤ latest = omega (arith, c.requires.bound) in
    let due : All (IsDue c.args.moment (due_keys c.args.moment c.self.inside.ledger.deadlines)) b.rows = all_due c.args.moment c.self.inside.ledger.deadlines within c.deadlines.ensures.ascending b.rows c.deadlines.ensures.waits in (
      rw (c.settle.ensures.rows, c.release_lapsed.ensures.list, c.deadlines.ensures.list, c.rows.ensures.list)
          (settled_sound c.self.inside.number b c.self.inside.timeline.list c.self.invariant.0 c.args.moment later c.requires.bound (due_keys c.args.moment c.self.inside.ledger.deadlines) due),
      c.settle.ensures.number ∙ c.self.invariant.1,
    )
