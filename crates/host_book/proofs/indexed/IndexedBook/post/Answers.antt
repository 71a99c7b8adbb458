use Rattle.std.proofs.Common.{◌≡◌, ◌++◌, ◌∷◌, [], refl, ap, ap₂, sym, subst, ◌∙◌}
use Rattle.host_model.specs.Apply.{apply}
use Rattle.host_model.specs.Book.{Book}
use Rattle.host_model.specs.Lawful.{Lawful}
use Rattle.host_model.specs.declared.change.Change.TheVariants.{Posted}
use Rattle.host_book.specs.Host.{Host, IsSound}
use Rattle.host_book.proofs.BookLemmas.{left_rows, posted_sound}
use Rattle.host_book.proofs.indexed.IndexedBook.post.Goals as goal

pub invariant_of-self : goal.invariant_of-self
invariant_of-self c =
    let b : Book = record { moment = c.self.inside.moment; epochs = c.self.inside.epochs.items; pairs = c.self.inside.pairs.list; tasks = c.self.inside.tasks.items; rows = c.self.inside.ledger.list } in
    let pushed : c.push.new.self.items ≡ b.tasks ++ c.args.task ∷ [] = rw (c.push.ensures.items, c.unwrap.ensures) refl in
    let lawful : Lawful c.self.inside.number (apply b.moment (Posted c.args.task) b) = subst (λ (h : Host). Lawful h.number (apply h.book.moment (Posted c.args.task) h.book)) (sym c.self.view_is) c.requires.lawful in (
      subst (λ x. IsSound c.self.inside.number x c.self.inside.timeline.list) (sym (ap₂ (λ x y. record b { tasks = x; rows = y }) pushed (sym (left_rows b.rows))))
          (posted_sound c.self.inside.number b c.self.inside.timeline.list c.self.invariant.0 c.args.task lawful),
      c.self.invariant.1,
    )

pub returns-clause-book : goal.returns-clause-book
returns-clause-book c =
    let b : Book = record { moment = c.self.inside.moment; epochs = c.self.inside.epochs.items; pairs = c.self.inside.pairs.list; tasks = c.self.inside.tasks.items; rows = c.self.inside.ledger.list } in
    let pushed : c.push.new.self.items ≡ b.tasks ++ c.args.task ∷ [] = rw (c.push.ensures.items, c.unwrap.ensures) refl in
    let lawful : Lawful c.self.inside.number (apply b.moment (Posted c.args.task) b) = subst (λ (h : Host). Lawful h.number (apply h.book.moment (Posted c.args.task) h.book)) (sym c.self.view_is) c.requires.lawful in
    ap₂ (λ x y. record b { tasks = x; rows = y }) pushed (sym (left_rows b.rows)) ∙ ap (λ (h : Host). apply h.book.moment (Posted c.args.task) h.book) c.self.view_is
