use Rattle.std.proofs.Common.{ap, ap₂, sym, subst, ◌∙◌}
use Rattle.host_model.specs.Apply.{apply}
use Rattle.host_model.specs.Book.{Book}
use Rattle.host_model.specs.Lawful.{Lawful}
use Rattle.host_model.specs.MayFollow.{CanApply}
use Rattle.host_model.specs.declared.change.Change.TheVariants.{Accepted}
use Rattle.host_book.specs.Host.{Host}
use Rattle.run_states.specs.Life.{HasMoments}
use Rattle.run_states.specs.Rows.{find_row, put_row}
use Rattle.run_states.specs.declared.row.RunRow.{RunRow}
use Rattle.host_book.proofs.AcceptLemmas.{accept_free, accept_key, accept_sound, accept_way, accepted_book, accepted_length, accepted_moments, accepted_pair, accepted_start, way_new}
use Rattle.host_book.proofs.indexed.IndexedBook.accept.Goals as goal

pub reservation_of-run-requires-clause-start : goal.reservation_of-run-requires-clause-start
reservation_of-run-requires-clause-start c =
    let b : Book = record { moment = c.self.inside.moment; epochs = c.self.inside.epochs.items; pairs = c.self.inside.pairs.list; tasks = c.self.inside.tasks.items; rows = c.self.inside.ledger.list } in
    let lawful : Lawful c.self.inside.number (apply b.moment (Accepted c.args.proposal c.args.participants c.args.epoch) b) = subst (λ (h : Host). Lawful h.number (apply h.book.moment (Accepted c.args.proposal c.args.participants c.args.epoch) h.book)) (sym c.self.view_is) c.requires.lawful in
    let can : CanApply b (Accepted c.args.proposal c.args.participants c.args.epoch) = subst (λ (h : Host). CanApply h.book (Accepted c.args.proposal c.args.participants c.args.epoch)) (sym c.self.view_is) c.requires.can in
    accepted_start c.self.inside.number b c.self.inside.timeline.list c.self.invariant.0 c.args.proposal c.args.participants c.args.epoch can lawful

pub reservation_of-run-requires-clause-length : goal.reservation_of-run-requires-clause-length
reservation_of-run-requires-clause-length c =
    let b : Book = record { moment = c.self.inside.moment; epochs = c.self.inside.epochs.items; pairs = c.self.inside.pairs.list; tasks = c.self.inside.tasks.items; rows = c.self.inside.ledger.list } in
    let lawful : Lawful c.self.inside.number (apply b.moment (Accepted c.args.proposal c.args.participants c.args.epoch) b) = subst (λ (h : Host). Lawful h.number (apply h.book.moment (Accepted c.args.proposal c.args.participants c.args.epoch) h.book)) (sym c.self.view_is) c.requires.lawful in
    let can : CanApply b (Accepted c.args.proposal c.args.participants c.args.epoch) = subst (λ (h : Host). CanApply h.book (Accepted c.args.proposal c.args.participants c.args.epoch)) (sym c.self.view_is) c.requires.can in
    accepted_length c.self.inside.number b c.self.inside.timeline.list c.self.invariant.0 c.args.proposal c.args.participants c.args.epoch can lawful

pub accepted_row-row-requires-clause-start : goal.accepted_row-row-requires-clause-start
accepted_row-row-requires-clause-start c =
    let b : Book = record { moment = c.self.inside.moment; epochs = c.self.inside.epochs.items; pairs = c.self.inside.pairs.list; tasks = c.self.inside.tasks.items; rows = c.self.inside.ledger.list } in
    let lawful : Lawful c.self.inside.number (apply b.moment (Accepted c.args.proposal c.args.participants c.args.epoch) b) = subst (λ (h : Host). Lawful h.number (apply h.book.moment (Accepted c.args.proposal c.args.participants c.args.epoch) h.book)) (sym c.self.view_is) c.requires.lawful in
    let can : CanApply b (Accepted c.args.proposal c.args.participants c.args.epoch) = subst (λ (h : Host). CanApply h.book (Accepted c.args.proposal c.args.participants c.args.epoch)) (sym c.self.view_is) c.requires.can in
    accepted_start c.self.inside.number b c.self.inside.timeline.list c.self.invariant.0 c.args.proposal c.args.participants c.args.epoch can lawful

pub accepted_row-row-requires-clause-length : goal.accepted_row-row-requires-clause-length
accepted_row-row-requires-clause-length c =
    let b : Book = record { moment = c.self.inside.moment; epochs = c.self.inside.epochs.items; pairs = c.self.inside.pairs.list; tasks = c.self.inside.tasks.items; rows = c.self.inside.ledger.list } in
    let lawful : Lawful c.self.inside.number (apply b.moment (Accepted c.args.proposal c.args.participants c.args.epoch) b) = subst (λ (h : Host). Lawful h.number (apply h.book.moment (Accepted c.args.proposal c.args.participants c.args.epoch) h.book)) (sym c.self.view_is) c.requires.lawful in
    let can : CanApply b (Accepted c.args.proposal c.args.participants c.args.epoch) = subst (λ (h : Host). CanApply h.book (Accepted c.args.proposal c.args.participants c.args.epoch)) (sym c.self.view_is) c.requires.can in
    accepted_length c.self.inside.number b c.self.inside.timeline.list c.self.invariant.0 c.args.proposal c.args.participants c.args.epoch can lawful

pub book-requires-clause-new_key : goal.book-requires-clause-new_key
book-requires-clause-new_key c =
    let b : Book = record { moment = c.self.inside.moment; epochs = c.self.inside.epochs.items; pairs = c.self.inside.pairs.list; tasks = c.self.inside.tasks.items; rows = c.self.inside.ledger.list } in
    let lawful : Lawful c.self.inside.number (apply b.moment (Accepted c.args.proposal c.args.participants c.args.epoch) b) = subst (λ (h : Host). Lawful h.number (apply h.book.moment (Accepted c.args.proposal c.args.participants c.args.epoch) h.book)) (sym c.self.view_is) c.requires.lawful in
    let can : CanApply b (Accepted c.args.proposal c.args.participants c.args.epoch) = subst (λ (h : Host). CanApply h.book (Accepted c.args.proposal c.args.participants c.args.epoch)) (sym c.self.view_is) c.requires.can in
    accept_key c.self.inside.number b c.self.inside.timeline.list c.self.invariant.0 c.args.proposal c.args.participants c.args.epoch can lawful c.reservation_of-run.result c.reservation_of-run.ensures c.release_conflicts.new.self.list c.release_conflicts.ensures.list

pub book-requires-clause-no_conflict : goal.book-requires-clause-no_conflict
book-requires-clause-no_conflict c =
    let b : Book = record { moment = c.self.inside.moment; epochs = c.self.inside.epochs.items; pairs = c.self.inside.pairs.list; tasks = c.self.inside.tasks.items; rows = c.self.inside.ledger.list } in
    let lawful : Lawful c.self.inside.number (apply b.moment (Accepted c.args.proposal c.args.participants c.args.epoch) b) = subst (λ (h : Host). Lawful h.number (apply h.book.moment (Accepted c.args.proposal c.args.participants c.args.epoch) h.book)) (sym c.self.view_is) c.requires.lawful in
    let can : CanApply b (Accepted c.args.proposal c.args.participants c.args.epoch) = subst (λ (h : Host). CanApply h.book (Accepted c.args.proposal c.args.participants c.args.epoch)) (sym c.self.view_is) c.requires.can in
    accept_free c.self.inside.number b c.self.inside.timeline.list c.self.invariant.0 c.args.proposal c.args.participants c.args.epoch can lawful c.reservation_of-run.result c.reservation_of-run.ensures c.release_conflicts.new.self.list c.release_conflicts.ensures.list

pub put-requires-clause-new_key : goal.put-requires-clause-new_key
put-requires-clause-new_key c =
    let b : Book = record { moment = c.self.inside.moment; epochs = c.self.inside.epochs.items; pairs = c.self.inside.pairs.list; tasks = c.self.inside.tasks.items; rows = c.self.inside.ledger.list } in
    let lawful : Lawful c.self.inside.number (apply b.moment (Accepted c.args.proposal c.args.participants c.args.epoch) b) = subst (λ (h : Host). Lawful h.number (apply h.book.moment (Accepted c.args.proposal c.args.participants c.args.epoch) h.book)) (sym c.self.view_is) c.requires.lawful in
    let can : CanApply b (Accepted c.args.proposal c.args.participants c.args.epoch) = subst (λ (h : Host). CanApply h.book (Accepted c.args.proposal c.args.participants c.args.epoch)) (sym c.self.view_is) c.requires.can in
    accepted_pair c.self.inside.number b c.self.inside.timeline.list c.self.invariant.0 c.args.proposal c.args.participants c.args.epoch can lawful

pub put-requires-2-clause-new_key : goal.put-requires-2-clause-new_key
put-requires-2-clause-new_key c =
    let b : Book = record { moment = c.self.inside.moment; epochs = c.self.inside.epochs.items; pairs = c.self.inside.pairs.list; tasks = c.self.inside.tasks.items; rows = c.self.inside.ledger.list } in
    let lawful : Lawful c.self.inside.number (apply b.moment (Accepted c.args.proposal c.args.participants c.args.epoch) b) = subst (λ (h : Host). Lawful h.number (apply h.book.moment (Accepted c.args.proposal c.args.participants c.args.epoch) h.book)) (sym c.self.view_is) c.requires.lawful in
    let can : CanApply b (Accepted c.args.proposal c.args.participants c.args.epoch) = subst (λ (h : Host). CanApply h.book (Accepted c.args.proposal c.args.participants c.args.epoch)) (sym c.self.view_is) c.requires.can in
    ap₂ (λ l (x : RunRow). find_row l x.key) (c.close_conflicts.ensures.rows ∙ accept_way c.self.inside.number b c.self.inside.timeline.list c.self.invariant.0 c.args.proposal c.args.participants c.args.epoch can lawful c.reservation_of-run.result c.reservation_of-run.ensures) c.accepted_row-row.ensures ∙ way_new c.self.inside.number b c.self.inside.timeline.list c.self.invariant.0 c.args.proposal c.args.participants c.args.epoch can lawful

pub put-requires-2-clause-moments : goal.put-requires-2-clause-moments
put-requires-2-clause-moments c =
    let b : Book = record { moment = c.self.inside.moment; epochs = c.self.inside.epochs.items; pairs = c.self.inside.pairs.list; tasks = c.self.inside.tasks.items; rows = c.self.inside.ledger.list } in
    let lawful : Lawful c.self.inside.number (apply b.moment (Accepted c.args.proposal c.args.participants c.args.epoch) b) = subst (λ (h : Host). Lawful h.number (apply h.book.moment (Accepted c.args.proposal c.args.participants c.args.epoch) h.book)) (sym c.self.view_is) c.requires.lawful in
    let can : CanApply b (Accepted c.args.proposal c.args.participants c.args.epoch) = subst (λ (h : Host). CanApply h.book (Accepted c.args.proposal c.args.participants c.args.epoch)) (sym c.self.view_is) c.requires.can in
    subst HasMoments (sym c.accepted_row-row.ensures) (accepted_moments c.self.inside.number b c.self.inside.timeline.list c.self.invariant.0 c.args.proposal c.args.participants c.args.epoch can lawful)

pub invariant_of-self : goal.invariant_of-self
invariant_of-self c =
    let b : Book = record { moment = c.self.inside.moment; epochs = c.self.inside.epochs.items; pairs = c.self.inside.pairs.list; tasks = c.self.inside.tasks.items; rows = c.self.inside.ledger.list } in
    let lawful : Lawful c.self.inside.number (apply b.moment (Accepted c.args.proposal c.args.participants c.args.epoch) b) = subst (λ (h : Host). Lawful h.number (apply h.book.moment (Accepted c.args.proposal c.args.participants c.args.epoch) h.book)) (sym c.self.view_is) c.requires.lawful in
    let can : CanApply b (Accepted c.args.proposal c.args.participants c.args.epoch) = subst (λ (h : Host). CanApply h.book (Accepted c.args.proposal c.args.participants c.args.epoch)) (sym c.self.view_is) c.requires.can in
    (accept_sound c.self.inside.number b c.self.inside.timeline.list c.self.invariant.0 c.args.proposal c.args.participants c.args.epoch can lawful c.reservation_of-run.result c.reservation_of-run.ensures c.release_conflicts.new.self.list c.release_conflicts.ensures.list c.put.new.self.list c.put-2.new.self.list c.book.new.self.list c.put.ensures.list (c.put-2.ensures.rows ∙ ap₂ put_row (c.close_conflicts.ensures.rows ∙ accept_way c.self.inside.number b c.self.inside.timeline.list c.self.invariant.0 c.args.proposal c.args.participants c.args.epoch can lawful c.reservation_of-run.result c.reservation_of-run.ensures) c.accepted_row-row.ensures) c.book.ensures.list, c.put-2.ensures.number ∙ (c.close_conflicts.ensures.number ∙ c.self.invariant.1))

pub returns-clause-book : goal.returns-clause-book
returns-clause-book c =
    let b : Book = record { moment = c.self.inside.moment; epochs = c.self.inside.epochs.items; pairs = c.self.inside.pairs.list; tasks = c.self.inside.tasks.items; rows = c.self.inside.ledger.list } in
    let lawful : Lawful c.self.inside.number (apply b.moment (Accepted c.args.proposal c.args.participants c.args.epoch) b) = subst (λ (h : Host). Lawful h.number (apply h.book.moment (Accepted c.args.proposal c.args.participants c.args.epoch) h.book)) (sym c.self.view_is) c.requires.lawful in
    let can : CanApply b (Accepted c.args.proposal c.args.participants c.args.epoch) = subst (λ (h : Host). CanApply h.book (Accepted c.args.proposal c.args.participants c.args.epoch)) (sym c.self.view_is) c.requires.can in
    accepted_book c.self.inside.number b c.self.inside.timeline.list c.self.invariant.0 c.args.proposal c.args.participants c.args.epoch can lawful c.put.new.self.list c.put-2.new.self.list c.put.ensures.list (c.put-2.ensures.rows ∙ ap₂ put_row (c.close_conflicts.ensures.rows ∙ accept_way c.self.inside.number b c.self.inside.timeline.list c.self.invariant.0 c.args.proposal c.args.participants c.args.epoch can lawful c.reservation_of-run.result c.reservation_of-run.ensures) c.accepted_row-row.ensures) ∙ ap (λ (h : Host). apply h.book.moment (Accepted c.args.proposal c.args.participants c.args.epoch) h.book) c.self.view_is
