use Rattle.std.proofs.Common.{◌≡◌, ◌++◌, length, take, drop, map, ap, ap₂, sym, subst, ◌∙◌, arith}
use Rattle.std.proofs.lemmas.Grind.{common_steps}
use Rattle.host_model.specs.Apply.{apply, close_task}
use Rattle.host_model.specs.Book.{Book}
use Rattle.host_model.specs.Lawful.{Lawful}
use Rattle.host_model.specs.declared.change.Change.TheVariants.{TaskClosed}
use Rattle.host_book.specs.Host.{Host, IsSound}
use Rattle.host_book.proofs.BookLemmas.{left_rows, task_closed_sound}
use Rattle.host_book.proofs.indexed.IndexedBook.close_task.Goals as goal

pub invariant_of-self : goal.invariant_of-self
invariant_of-self c =
    let b : Book = record { moment = c.self.inside.moment; epochs = c.self.inside.epochs.items; pairs = c.self.inside.pairs.list; tasks = c.self.inside.tasks.items; rows = c.self.inside.ledger.list } in
    let made : take c.self.inside.tasks.len (c.close_task.new.tasks ++ drop (length c.close_task.new.tasks) c.self.inside.tasks.items) ≡ map (close_task c.self.inside.moment c.args.serial) c.self.inside.tasks.items = grind (arith, common_steps) in
    let lawful : Lawful c.self.inside.number (apply b.moment (TaskClosed c.args.serial) b) = subst (λ (h : Host). Lawful h.number (apply h.book.moment (TaskClosed c.args.serial) h.book)) (sym c.self.view_is) c.requires.lawful in (
      subst (λ x. IsSound c.self.inside.number x c.self.inside.timeline.list) (sym (ap₂ (λ x y. record b { tasks = x; rows = y }) made (sym (left_rows b.rows))))
          (task_closed_sound c.self.inside.number b c.self.inside.timeline.list c.self.invariant.0 c.args.serial lawful),
      c.self.invariant.1,
    )

pub returns-clause-book : goal.returns-clause-book
returns-clause-book c =
    let b : Book = record { moment = c.self.inside.moment; epochs = c.self.inside.epochs.items; pairs = c.self.inside.pairs.list; tasks = c.self.inside.tasks.items; rows = c.self.inside.ledger.list } in
    let made : take c.self.inside.tasks.len (c.close_task.new.tasks ++ drop (length c.close_task.new.tasks) c.self.inside.tasks.items) ≡ map (close_task c.self.inside.moment c.args.serial) c.self.inside.tasks.items = grind (arith, common_steps) in
    ap₂ (λ x y. record b { tasks = x; rows = y }) made (sym (left_rows b.rows)) ∙ ap (λ (h : Host). apply h.book.moment (TaskClosed c.args.serial) h.book) c.self.view_is
