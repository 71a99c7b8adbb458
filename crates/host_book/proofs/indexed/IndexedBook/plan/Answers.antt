use Rattle.std.proofs.Common.{◌≡◌, Some, All, ap, ap₂, sym, subst, ◌∙◌}
use Rattle.host_model.specs.Apply.{apply}
use Rattle.host_model.specs.Book.{Book}
use Rattle.host_model.specs.Lawful.{Lawful}
use Rattle.host_model.specs.MayFollow.{CanApply}
use Rattle.host_model.specs.declared.change.Change.TheVariants.{Planned}
use Rattle.host_book.specs.Host.{Host}
use Rattle.run_states.specs.Effect.{noted_row}
use Rattle.run_states.specs.Life.{HasMoments}
use Rattle.run_states.specs.Rows.{change_row, find_row}
use Rattle.run_states.specs.declared.row.RunRow.{RunRow}
use Rattle.host_book.proofs.AcceptLemmas.{plan_fact, plan_free, plan_key, plan_sound, plan_way, planned_book, planned_length, planned_moments, planned_pair, planned_start}
use Rattle.host_book.proofs.indexed.IndexedBook.plan.Goals as goal

pub planned_reservation-run-requires-clause-start : goal.planned_reservation-run-requires-clause-start
planned_reservation-run-requires-clause-start c =
    let b : Book = record { moment = c.self.inside.moment; epochs = c.self.inside.epochs.items; pairs = c.self.inside.pairs.list; tasks = c.self.inside.tasks.items; rows = c.self.inside.ledger.list } in
    let lawful : Lawful c.self.inside.number (apply b.moment (Planned c.args.key c.args.start c.args.tool c.args.epoch) b) = subst (λ (h : Host). Lawful h.number (apply h.book.moment (Planned c.args.key c.args.start c.args.tool c.args.epoch) h.book)) (sym c.self.view_is) c.requires.lawful in
    let can : CanApply b (Planned c.args.key c.args.start c.args.tool c.args.epoch) = subst (λ (h : Host). CanApply h.book (Planned c.args.key c.args.start c.args.tool c.args.epoch)) (sym c.self.view_is) c.requires.can in
    let r : RunRow = c.in-Some.row.now in
    let at : find_row b.rows c.args.key ≡ Some r = ap (λ l. find_row l c.args.key) (sym c.rows.ensures.list) ∙ sym c.in-Some.ensures in
    planned_start c.self.inside.number b c.self.inside.timeline.list c.self.invariant.0 c.args.key c.args.start c.args.tool c.args.epoch can lawful r at

pub planned_reservation-run-requires-clause-length : goal.planned_reservation-run-requires-clause-length
planned_reservation-run-requires-clause-length c =
    let b : Book = record { moment = c.self.inside.moment; epochs = c.self.inside.epochs.items; pairs = c.self.inside.pairs.list; tasks = c.self.inside.tasks.items; rows = c.self.inside.ledger.list } in
    let lawful : Lawful c.self.inside.number (apply b.moment (Planned c.args.key c.args.start c.args.tool c.args.epoch) b) = subst (λ (h : Host). Lawful h.number (apply h.book.moment (Planned c.args.key c.args.start c.args.tool c.args.epoch) h.book)) (sym c.self.view_is) c.requires.lawful in
    let can : CanApply b (Planned c.args.key c.args.start c.args.tool c.args.epoch) = subst (λ (h : Host). CanApply h.book (Planned c.args.key c.args.start c.args.tool c.args.epoch)) (sym c.self.view_is) c.requires.can in
    let r : RunRow = c.in-Some.row.now in
    let at : find_row b.rows c.args.key ≡ Some r = ap (λ l. find_row l c.args.key) (sym c.rows.ensures.list) ∙ sym c.in-Some.ensures in
    planned_length c.self.inside.number b c.self.inside.timeline.list c.self.invariant.0 c.args.key c.args.start c.args.tool c.args.epoch can lawful r at

pub book-requires-clause-new_key : goal.book-requires-clause-new_key
book-requires-clause-new_key c =
    let b : Book = record { moment = c.self.inside.moment; epochs = c.self.inside.epochs.items; pairs = c.self.inside.pairs.list; tasks = c.self.inside.tasks.items; rows = c.self.inside.ledger.list } in
    let lawful : Lawful c.self.inside.number (apply b.moment (Planned c.args.key c.args.start c.args.tool c.args.epoch) b) = subst (λ (h : Host). Lawful h.number (apply h.book.moment (Planned c.args.key c.args.start c.args.tool c.args.epoch) h.book)) (sym c.self.view_is) c.requires.lawful in
    let can : CanApply b (Planned c.args.key c.args.start c.args.tool c.args.epoch) = subst (λ (h : Host). CanApply h.book (Planned c.args.key c.args.start c.args.tool c.args.epoch)) (sym c.self.view_is) c.requires.can in
    let r : RunRow = c.in-Some.row.now in
    let at : find_row b.rows c.args.key ≡ Some r = ap (λ l. find_row l c.args.key) (sym c.rows.ensures.list) ∙ sym c.in-Some.ensures in
    plan_key c.self.inside.number b c.self.inside.timeline.list c.self.invariant.0 c.args.key c.args.start c.args.tool c.args.epoch can lawful r at c.planned_reservation-run.result c.planned_reservation-run.ensures c.release_conflicts.new.self.list c.release_conflicts.ensures.list

pub book-requires-clause-no_conflict : goal.book-requires-clause-no_conflict
book-requires-clause-no_conflict c =
    let b : Book = record { moment = c.self.inside.moment; epochs = c.self.inside.epochs.items; pairs = c.self.inside.pairs.list; tasks = c.self.inside.tasks.items; rows = c.self.inside.ledger.list } in
    let lawful : Lawful c.self.inside.number (apply b.moment (Planned c.args.key c.args.start c.args.tool c.args.epoch) b) = subst (λ (h : Host). Lawful h.number (apply h.book.moment (Planned c.args.key c.args.start c.args.tool c.args.epoch) h.book)) (sym c.self.view_is) c.requires.lawful in
    let can : CanApply b (Planned c.args.key c.args.start c.args.tool c.args.epoch) = subst (λ (h : Host). CanApply h.book (Planned c.args.key c.args.start c.args.tool c.args.epoch)) (sym c.self.view_is) c.requires.can in
    let r : RunRow = c.in-Some.row.now in
    let at : find_row b.rows c.args.key ≡ Some r = ap (λ l. find_row l c.args.key) (sym c.rows.ensures.list) ∙ sym c.in-Some.ensures in
    plan_free c.self.inside.number b c.self.inside.timeline.list c.self.invariant.0 c.args.key c.args.start c.args.tool c.args.epoch can lawful r at c.planned_reservation-run.result c.planned_reservation-run.ensures c.release_conflicts.new.self.list c.release_conflicts.ensures.list

pub put-requires-clause-new_key : goal.put-requires-clause-new_key
put-requires-clause-new_key c =
    let b : Book = record { moment = c.self.inside.moment; epochs = c.self.inside.epochs.items; pairs = c.self.inside.pairs.list; tasks = c.self.inside.tasks.items; rows = c.self.inside.ledger.list } in
    let lawful : Lawful c.self.inside.number (apply b.moment (Planned c.args.key c.args.start c.args.tool c.args.epoch) b) = subst (λ (h : Host). Lawful h.number (apply h.book.moment (Planned c.args.key c.args.start c.args.tool c.args.epoch) h.book)) (sym c.self.view_is) c.requires.lawful in
    let can : CanApply b (Planned c.args.key c.args.start c.args.tool c.args.epoch) = subst (λ (h : Host). CanApply h.book (Planned c.args.key c.args.start c.args.tool c.args.epoch)) (sym c.self.view_is) c.requires.can in
    let r : RunRow = c.in-Some.row.now in
    let at : find_row b.rows c.args.key ≡ Some r = ap (λ l. find_row l c.args.key) (sym c.rows.ensures.list) ∙ sym c.in-Some.ensures in
    planned_pair c.self.inside.number b c.self.inside.timeline.list c.self.invariant.0 c.args.key c.args.start c.args.tool c.args.epoch can lawful r at

pub note-requires-clause-moments : goal.note-requires-clause-moments
note-requires-clause-moments c =
    let b : Book = record { moment = c.self.inside.moment; epochs = c.self.inside.epochs.items; pairs = c.self.inside.pairs.list; tasks = c.self.inside.tasks.items; rows = c.self.inside.ledger.list } in
    let lawful : Lawful c.self.inside.number (apply b.moment (Planned c.args.key c.args.start c.args.tool c.args.epoch) b) = subst (λ (h : Host). Lawful h.number (apply h.book.moment (Planned c.args.key c.args.start c.args.tool c.args.epoch) h.book)) (sym c.self.view_is) c.requires.lawful in
    let can : CanApply b (Planned c.args.key c.args.start c.args.tool c.args.epoch) = subst (λ (h : Host). CanApply h.book (Planned c.args.key c.args.start c.args.tool c.args.epoch)) (sym c.self.view_is) c.requires.can in
    let r : RunRow = c.in-Some.row.now in
    let at : find_row b.rows c.args.key ≡ Some r = ap (λ l. find_row l c.args.key) (sym c.rows.ensures.list) ∙ sym c.in-Some.ensures in
    subst (All HasMoments) (sym (ap₂ (λ f l. change_row (noted_row f b.moment) l c.args.key) (plan_fact c.self.inside.number b c.self.inside.timeline.list c.self.invariant.0 c.args.key c.args.start c.args.tool c.args.epoch can lawful r at c.planned_reservation-run.result c.planned_reservation-run.ensures) (c.close_conflicts.ensures.rows ∙ plan_way c.self.inside.number b c.self.inside.timeline.list c.self.invariant.0 c.args.key c.args.start c.args.tool c.args.epoch can lawful r at c.planned_reservation-run.result c.planned_reservation-run.ensures))) (planned_moments c.self.inside.number b c.self.inside.timeline.list c.self.invariant.0 c.args.key c.args.start c.args.tool c.args.epoch can lawful r at)

pub invariant_of-self : goal.invariant_of-self
invariant_of-self c =
    let b : Book = record { moment = c.self.inside.moment; epochs = c.self.inside.epochs.items; pairs = c.self.inside.pairs.list; tasks = c.self.inside.tasks.items; rows = c.self.inside.ledger.list } in
    let lawful : Lawful c.self.inside.number (apply b.moment (Planned c.args.key c.args.start c.args.tool c.args.epoch) b) = subst (λ (h : Host). Lawful h.number (apply h.book.moment (Planned c.args.key c.args.start c.args.tool c.args.epoch) h.book)) (sym c.self.view_is) c.requires.lawful in
    let can : CanApply b (Planned c.args.key c.args.start c.args.tool c.args.epoch) = subst (λ (h : Host). CanApply h.book (Planned c.args.key c.args.start c.args.tool c.args.epoch)) (sym c.self.view_is) c.requires.can in
    let r : RunRow = c.in-Some.row.now in
    let at : find_row b.rows c.args.key ≡ Some r = ap (λ l. find_row l c.args.key) (sym c.rows.ensures.list) ∙ sym c.in-Some.ensures in
    (plan_sound c.self.inside.number b c.self.inside.timeline.list c.self.invariant.0 c.args.key c.args.start c.args.tool c.args.epoch can lawful r at c.planned_reservation-run.result c.planned_reservation-run.ensures c.release_conflicts.new.self.list c.release_conflicts.ensures.list c.put.new.self.list c.note.new.self.list c.book.new.self.list c.put.ensures.list (c.note.ensures.rows ∙ ap₂ (λ f l. change_row (noted_row f b.moment) l c.args.key) (plan_fact c.self.inside.number b c.self.inside.timeline.list c.self.invariant.0 c.args.key c.args.start c.args.tool c.args.epoch can lawful r at c.planned_reservation-run.result c.planned_reservation-run.ensures) (c.close_conflicts.ensures.rows ∙ plan_way c.self.inside.number b c.self.inside.timeline.list c.self.invariant.0 c.args.key c.args.start c.args.tool c.args.epoch can lawful r at c.planned_reservation-run.result c.planned_reservation-run.ensures)) c.book.ensures.list, c.note.ensures.number ∙ (c.close_conflicts.ensures.number ∙ c.self.invariant.1))

pub returns-clause-book : goal.returns-clause-book
returns-clause-book c =
    let b : Book = record { moment = c.self.inside.moment; epochs = c.self.inside.epochs.items; pairs = c.self.inside.pairs.list; tasks = c.self.inside.tasks.items; rows = c.self.inside.ledger.list } in
    let lawful : Lawful c.self.inside.number (apply b.moment (Planned c.args.key c.args.start c.args.tool c.args.epoch) b) = subst (λ (h : Host). Lawful h.number (apply h.book.moment (Planned c.args.key c.args.start c.args.tool c.args.epoch) h.book)) (sym c.self.view_is) c.requires.lawful in
    let can : CanApply b (Planned c.args.key c.args.start c.args.tool c.args.epoch) = subst (λ (h : Host). CanApply h.book (Planned c.args.key c.args.start c.args.tool c.args.epoch)) (sym c.self.view_is) c.requires.can in
    let r : RunRow = c.in-Some.row.now in
    let at : find_row b.rows c.args.key ≡ Some r = ap (λ l. find_row l c.args.key) (sym c.rows.ensures.list) ∙ sym c.in-Some.ensures in
    planned_book c.self.inside.number b c.self.inside.timeline.list c.self.invariant.0 c.args.key c.args.start c.args.tool c.args.epoch can lawful r at c.put.new.self.list c.note.new.self.list c.put.ensures.list (c.note.ensures.rows ∙ ap₂ (λ f l. change_row (noted_row f b.moment) l c.args.key) (plan_fact c.self.inside.number b c.self.inside.timeline.list c.self.invariant.0 c.args.key c.args.start c.args.tool c.args.epoch can lawful r at c.planned_reservation-run.result c.planned_reservation-run.ensures) (c.close_conflicts.ensures.rows ∙ plan_way c.self.inside.number b c.self.inside.timeline.list c.self.invariant.0 c.args.key c.args.start c.args.tool c.args.epoch can lawful r at c.planned_reservation-run.result c.planned_reservation-run.ensures)) ∙ ap (λ (h : Host). apply h.book.moment (Planned c.args.key c.args.start c.args.tool c.args.epoch) h.book) c.self.view_is
