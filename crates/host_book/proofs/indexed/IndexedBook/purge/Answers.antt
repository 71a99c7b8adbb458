use Rattle.std.proofs.Common.{ap, ap₂, sym, subst, ◌∙◌}
use Rattle.host_model.specs.Apply.{apply}
use Rattle.host_model.specs.Book.{Book}
use Rattle.host_model.specs.Lawful.{Lawful}
use Rattle.host_model.specs.declared.change.Change.TheVariants.{Purged}
use Rattle.host_timeline.specs.Timeline.{without_booking}
use Rattle.host_book.specs.Host.{Host, IsSound}
use Rattle.host_book.proofs.BookLemmas.{purged_rows, purged_sound}
use Rattle.host_book.proofs.indexed.IndexedBook.purge.Goals as goal

pub invariant_of-self : goal.invariant_of-self
invariant_of-self c =
    let b : Book = record { moment = c.self.inside.moment; epochs = c.self.inside.epochs.items; pairs = c.self.inside.pairs.list; tasks = c.self.inside.tasks.items; rows = c.self.inside.ledger.list } in
    let lawful : Lawful c.self.inside.number (apply b.moment (Purged c.args.key) b) = subst (λ (h : Host). Lawful h.number (apply h.book.moment (Purged c.args.key) h.book)) (sym c.self.view_is) c.requires.lawful in (
      subst (λ l. IsSound c.self.inside.number (record b { pairs = c.purge.new.self.list; rows = c.purge-2.new.self.list }) l) (sym c.release.ensures.list)
          (subst (λ x. IsSound c.self.inside.number x (without_booking c.self.inside.timeline.list c.args.key)) (sym (ap₂ (λ x y. record b { pairs = x; rows = y }) c.purge.ensures.list (c.purge-2.ensures.rows ∙ sym (purged_rows c.args.key b.rows))))
          (purged_sound c.self.inside.number b c.self.inside.timeline.list c.self.invariant.0 c.args.key lawful)),
      c.purge-2.ensures.number ∙ c.self.invariant.1,
    )

pub returns-clause-book : goal.returns-clause-book
returns-clause-book c =
    let b : Book = record { moment = c.self.inside.moment; epochs = c.self.inside.epochs.items; pairs = c.self.inside.pairs.list; tasks = c.self.inside.tasks.items; rows = c.self.inside.ledger.list } in
    let lawful : Lawful c.self.inside.number (apply b.moment (Purged c.args.key) b) = subst (λ (h : Host). Lawful h.number (apply h.book.moment (Purged c.args.key) h.book)) (sym c.self.view_is) c.requires.lawful in
    ap₂ (λ x y. record b { pairs = x; rows = y }) c.purge.ensures.list (c.purge-2.ensures.rows ∙ sym (purged_rows c.args.key b.rows)) ∙ ap (λ (h : Host). apply h.book.moment (Purged c.args.key) h.book) c.self.view_is
