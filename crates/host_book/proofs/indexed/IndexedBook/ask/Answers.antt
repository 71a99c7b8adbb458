use Rattle.std.proofs.Common.{ap, sym, subst, ◌∙◌}
use Rattle.host_model.specs.Apply.{apply}
use Rattle.host_model.specs.Book.{Book}
use Rattle.host_model.specs.Lawful.{Lawful}
use Rattle.host_model.specs.MayFollow.{CanApply}
use Rattle.host_model.specs.declared.change.Change.TheVariants.{Asked}
use Rattle.host_book.specs.Host.{Host, IsSound}
use Rattle.run_states.specs.ResultBytes.{row_bytes}
use Rattle.run_states.specs.Life.{HasMoments}
use Rattle.run_states.specs.Rows.{find_row, put_row}
use Rattle.run_states.specs.declared.row.RunRow.{RunRow}
use Rattle.host_book.proofs.AcceptLemmas.{asked_bytes, asked_moments, asked_new, asked_rows, asked_sound}
use Rattle.host_book.proofs.indexed.IndexedBook.ask.Goals as goal

-- the row has no results
pub put-requires-clause-bytes : goal.put-requires-clause-bytes
put-requires-clause-bytes c = ap row_bytes c.asked_row-row.ensures ∙ asked_bytes c.self.inside.moment c.args.question c.args.participants c.args.asker

pub put-requires-clause-new_key : goal.put-requires-clause-new_key
put-requires-clause-new_key c =
    let b : Book = record { moment = c.self.inside.moment; epochs = c.self.inside.epochs.items; pairs = c.self.inside.pairs.list; tasks = c.self.inside.tasks.items; rows = c.self.inside.ledger.list } in
    let lawful : Lawful c.self.inside.number (apply b.moment (Asked c.args.question c.args.participants c.args.asker) b) = subst (λ (h : Host). Lawful h.number (apply h.book.moment (Asked c.args.question c.args.participants c.args.asker) h.book)) (sym c.self.view_is) c.requires.lawful in
    let can : CanApply b (Asked c.args.question c.args.participants c.args.asker) = subst (λ (h : Host). CanApply h.book (Asked c.args.question c.args.participants c.args.asker)) (sym c.self.view_is) c.requires.can in
    ap (λ (x : RunRow). find_row b.rows x.key) c.asked_row-row.ensures ∙ asked_new c.self.inside.number b c.self.inside.timeline.list c.self.invariant.0 c.args.question c.args.participants c.args.asker can lawful

pub put-requires-clause-moments : goal.put-requires-clause-moments
put-requires-clause-moments c =
    let b : Book = record { moment = c.self.inside.moment; epochs = c.self.inside.epochs.items; pairs = c.self.inside.pairs.list; tasks = c.self.inside.tasks.items; rows = c.self.inside.ledger.list } in
    let lawful : Lawful c.self.inside.number (apply b.moment (Asked c.args.question c.args.participants c.args.asker) b) = subst (λ (h : Host). Lawful h.number (apply h.book.moment (Asked c.args.question c.args.participants c.args.asker) h.book)) (sym c.self.view_is) c.requires.lawful in
    let can : CanApply b (Asked c.args.question c.args.participants c.args.asker) = subst (λ (h : Host). CanApply h.book (Asked c.args.question c.args.participants c.args.asker)) (sym c.self.view_is) c.requires.can in
    subst HasMoments (sym c.asked_row-row.ensures) (asked_moments c.self.inside.number b c.self.inside.timeline.list c.self.invariant.0 c.args.question c.args.participants c.args.asker can lawful)

pub invariant_of-self : goal.invariant_of-self
invariant_of-self c =
    let b : Book = record { moment = c.self.inside.moment; epochs = c.self.inside.epochs.items; pairs = c.self.inside.pairs.list; tasks = c.self.inside.tasks.items; rows = c.self.inside.ledger.list } in
    let lawful : Lawful c.self.inside.number (apply b.moment (Asked c.args.question c.args.participants c.args.asker) b) = subst (λ (h : Host). Lawful h.number (apply h.book.moment (Asked c.args.question c.args.participants c.args.asker) h.book)) (sym c.self.view_is) c.requires.lawful in
    let can : CanApply b (Asked c.args.question c.args.participants c.args.asker) = subst (λ (h : Host). CanApply h.book (Asked c.args.question c.args.participants c.args.asker)) (sym c.self.view_is) c.requires.can in
    (subst (λ l. IsSound c.self.inside.number (record b { rows = l }) c.self.inside.timeline.list) (sym (c.put.ensures.rows ∙ (ap (put_row b.rows) c.asked_row-row.ensures ∙ sym (asked_rows c.self.inside.number b c.self.inside.timeline.list c.self.invariant.0 c.args.question c.args.participants c.args.asker can lawful)))) (asked_sound c.self.inside.number b c.self.inside.timeline.list c.self.invariant.0 c.args.question c.args.participants c.args.asker can lawful), c.put.ensures.number ∙ c.self.invariant.1)

pub returns-clause-book : goal.returns-clause-book
returns-clause-book c =
    let b : Book = record { moment = c.self.inside.moment; epochs = c.self.inside.epochs.items; pairs = c.self.inside.pairs.list; tasks = c.self.inside.tasks.items; rows = c.self.inside.ledger.list } in
    let lawful : Lawful c.self.inside.number (apply b.moment (Asked c.args.question c.args.participants c.args.asker) b) = subst (λ (h : Host). Lawful h.number (apply h.book.moment (Asked c.args.question c.args.participants c.args.asker) h.book)) (sym c.self.view_is) c.requires.lawful in
    let can : CanApply b (Asked c.args.question c.args.participants c.args.asker) = subst (λ (h : Host). CanApply h.book (Asked c.args.question c.args.participants c.args.asker)) (sym c.self.view_is) c.requires.can in
    ap (λ l. record b { rows = l }) (c.put.ensures.rows ∙ (ap (put_row b.rows) c.asked_row-row.ensures ∙ sym (asked_rows c.self.inside.number b c.self.inside.timeline.list c.self.invariant.0 c.args.question c.args.participants c.args.asker can lawful))) ∙ ap (λ (h : Host). apply h.book.moment (Asked c.args.question c.args.participants c.args.asker) h.book) c.self.view_is
