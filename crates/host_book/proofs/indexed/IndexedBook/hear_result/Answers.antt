use Rattle.std.proofs.Common.{◌≡◌, true, false, ap, sym, subst, ◌∙◌}
use Rattle.run_states.specs.Effect.{change_other, with_result}
use Rattle.run_states.specs.Rows.{find_row}
use Rattle.host_model.specs.Apply.{apply}
use Rattle.host_model.specs.Book.{Book}
use Rattle.host_model.specs.Lawful.{Lawful}
use Rattle.host_model.specs.MayFollow.{CanApply}
use Rattle.host_model.specs.declared.change.Change.TheVariants.{ResultHeard}
use Rattle.host_book.specs.Host.{Host}
use Rattle.host_book.specs.Ready.{is_heard}
use Rattle.host_book.proofs.BringLemmas.{heard_before, result_brings, unchanged}
use Rattle.host_book.proofs.indexed.IndexedBook.hear_result.Goals as goal

-- what was heard stays
pub returns-then-is_heard-clause-book : goal.returns-then-is_heard-clause-book
returns-then-is_heard-clause-book c =
    let b : Book = record { moment = c.self.inside.moment; epochs = c.self.inside.epochs.items; pairs = c.self.inside.pairs.list; tasks = c.self.inside.tasks.items; rows = c.self.inside.ledger.list } in
    let lawful : Lawful c.self.inside.number (apply b.moment (ResultHeard c.args.key c.args.place c.args.told) b) = subst (λ (h : Host). Lawful h.number (apply h.book.moment (ResultHeard c.args.key c.args.place c.args.told) h.book)) (sym c.self.view_is) c.requires.lawful in
    let can : CanApply b (ResultHeard c.args.key c.args.place c.args.told) = subst (λ (h : Host). CanApply h.book (ResultHeard c.args.key c.args.place c.args.told)) (sym c.self.view_is) c.requires.can in
    let is : is_heard c.args.place (find_row b.rows c.args.key) ≡ true = subst (λ l. is_heard c.args.place (find_row l c.args.key) ≡ true) c.rows.ensures.list (sym c.is_heard.ensures ∙ c.if-is_heard.true) in
    let leaves = unchanged (change_other (with_result c.args.told) c.args.place) b.rows c.args.key (λ r at. heard_before c.args.told c.args.place r (ap (is_heard c.args.place) (sym at) ∙ is)) c.self.invariant.0.lawful.ascending in
    sym (ap (λ (h : Host). h.book) c.self.view_is) ∙ (ap (λ l. record b { rows = l }) (sym leaves) ∙ ap (λ (h : Host). apply h.book.moment (ResultHeard c.args.key c.args.place c.args.told) h.book) c.self.view_is)

-- what comes is a result
pub note-requires-clause-results : goal.note-requires-clause-results
note-requires-clause-results c =
    let b : Book = record { moment = c.self.inside.moment; epochs = c.self.inside.epochs.items; pairs = c.self.inside.pairs.list; tasks = c.self.inside.tasks.items; rows = c.self.inside.ledger.list } in
    let lawful : Lawful c.self.inside.number (apply b.moment (ResultHeard c.args.key c.args.place c.args.told) b) = subst (λ (h : Host). Lawful h.number (apply h.book.moment (ResultHeard c.args.key c.args.place c.args.told) h.book)) (sym c.self.view_is) c.requires.lawful in
    let can : CanApply b (ResultHeard c.args.key c.args.place c.args.told) = subst (λ (h : Host). CanApply h.book (ResultHeard c.args.key c.args.place c.args.told)) (sym c.self.view_is) c.requires.can in
    let is : is_heard c.args.place (find_row b.rows c.args.key) ≡ false = subst (λ l. is_heard c.args.place (find_row l c.args.key) ≡ false) c.rows.ensures.list (sym c.is_heard.ensures ∙ c.if-is_heard.false) in
    result_brings c.self.inside.number b.tasks b.moment b.rows c.args.key c.args.place c.args.told can is lawful.rows
