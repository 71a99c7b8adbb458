use Rattle.std.proofs.Common.{◌≡◌, ◌-◌, Some, length, slice_get, ap, sym, subst, ◌∙◌}
use Rattle.host_model.specs.Book.{last_limits}
use Rattle.host_book.specs.Host.{Host}
use Rattle.host_book.proofs.BookLemmas.{last_in_force}
use Rattle.host_book.proofs.indexed.IndexedBook.limits.Goals as goal

-- the last of them are in force
pub returns-in-Some : goal.returns-in-Some
returns-in-Some c =
    last_in_force c.args.first.now c.in-Some.limits.now c.self.inside.epochs.items (subst (λ l. slice_get l (length l - 1) ≡ Some c.in-Some.limits.now) c.deref.ensures.value (sym c.in-Some.ensures.value))
    ∙ ap (λ (h : Host). last_limits c.args.first.now h.book.epochs) c.self.view_is
