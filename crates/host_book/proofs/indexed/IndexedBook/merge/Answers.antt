use Rattle.std.proofs.Common.{◌≡◌, true, false, ap, arith, length, sym, subst, ◌∙◌}
use Rattle.run_states.specs.Effect.{merge_row}
use Rattle.run_states.specs.Rows.{find_row}
use Rattle.run_states.specs.declared.fact.Fact.TheVariants.{Merged as MergedFact}
use Rattle.host_model.specs.Apply.{apply}
use Rattle.host_model.specs.Book.{Book}
use Rattle.host_model.specs.Effect.{archives_of, states_due}
use Rattle.host_model.specs.Lawful.{Lawful}
use Rattle.host_model.specs.LawfulRow.{IsHostRow}
use Rattle.host_model.specs.MayFollow.{CanApply}
use Rattle.host_model.specs.declared.change.Change.TheVariants.{Merged}
use Rattle.host_model.proofs.Placed.{find_row-key}
use Rattle.host_model.proofs.RowLemmas.{found_of_all}
use Rattle.host_book.specs.Host.{Host, noted}
use Rattle.host_book.specs.Ready.{is_merged}
use Rattle.host_book.proofs.MergingLemmas.{few_archives}
use Rattle.host_book.proofs.BringLemmas.{merge_brings, merged_before, unchanged}
use Rattle.host_book.proofs.indexed.IndexedBook.merge.Goals as goal

-- what is merged stays
pub returns-then-is_merged-clause-book : goal.returns-then-is_merged-clause-book
returns-then-is_merged-clause-book c =
    let b : Book = record { moment = c.self.inside.moment; epochs = c.self.inside.epochs.items; pairs = c.self.inside.pairs.list; tasks = c.self.inside.tasks.items; rows = c.self.inside.ledger.list } in
    let lawful : Lawful c.self.inside.number (apply b.moment (Merged c.args.key c.args.body) b) = subst (λ (h : Host). Lawful h.number (apply h.book.moment (Merged c.args.key c.args.body) h.book)) (sym c.self.view_is) c.requires.lawful in
    let can : CanApply b (Merged c.args.key c.args.body) = subst (λ (h : Host). CanApply h.book (Merged c.args.key c.args.body)) (sym c.self.view_is) c.requires.can in
    let is : is_merged (find_row b.rows c.args.key) ≡ true = subst (λ l. is_merged (find_row l c.args.key) ≡ true) c.rows.ensures.list (sym c.is_merged.ensures ∙ c.if-is_merged.true) in
    let leaves = unchanged (merge_row (states_due b.moment (archives_of b.tasks c.args.key)) c.args.body) b.rows c.args.key
    (λ r at. merged_before c.self.inside.number b.tasks b.moment b.moment c.args.key c.args.body r (find_row-key b.rows c.args.key r at) (found_of_all (IsHostRow c.self.inside.number b.tasks b.moment) c.args.key r b.rows c.self.invariant.0.lawful.rows at) (ap is_merged (sym at) ∙ is)) c.self.invariant.0.lawful.ascending in
    sym (ap (λ (h : Host). h.book) c.self.view_is) ∙ (ap (λ l. record b { rows = l }) (sym leaves) ∙ ap (λ (h : Host). apply h.book.moment (Merged c.args.key c.args.body) h.book) c.self.view_is)

-- what comes is a tree
pub note-requires-clause-results : goal.note-requires-clause-results
note-requires-clause-results c =
    let b : Book = record { moment = c.self.inside.moment; epochs = c.self.inside.epochs.items; pairs = c.self.inside.pairs.list; tasks = c.self.inside.tasks.items; rows = c.self.inside.ledger.list } in
    let lawful : Lawful c.self.inside.number (apply b.moment (Merged c.args.key c.args.body) b) = subst (λ (h : Host). Lawful h.number (apply h.book.moment (Merged c.args.key c.args.body) h.book)) (sym c.self.view_is) c.requires.lawful in
    let can : CanApply b (Merged c.args.key c.args.body) = subst (λ (h : Host). CanApply h.book (Merged c.args.key c.args.body)) (sym c.self.view_is) c.requires.can in
    let is : is_merged (find_row b.rows c.args.key) ≡ false = subst (λ l. is_merged (find_row l c.args.key) ≡ false) c.rows.ensures.list (sym c.is_merged.ensures ∙ c.if-is_merged.false) in
    merge_brings c.self.inside.number b.tasks b.moment b.rows c.args.key (states_due b.moment (archives_of b.tasks c.args.key)) c.args.body can is lawful.rows

-- there are places for the states of the task's archives
pub states_due-archives-requires-clause-enough : goal.states_due-archives-requires-clause-enough
states_due-archives-requires-clause-enough c =
    let few = few_archives c.self.inside.moment c.self.inside.tasks.items c.args.key c.self.invariant.0.lawful.tasks in
    let same = ap (λ l. length (archives_of l c.args.key)) c.as_slice.ensures.value in
    omega (arith, few, same, c.requires.places)

-- the states are those of the task's archives
pub note-requires-clause-lawful : goal.note-requires-clause-lawful
note-requires-clause-lawful c =
    let states = c.states_due-archives.ensures
    ∙ (ap (λ l. states_due c.self.inside.moment (archives_of l c.args.key)) c.as_slice.ensures.value
    ∙ ap (λ (h : Host). states_due h.book.moment (archives_of h.book.tasks c.args.key)) c.self.view_is) in
    subst (λ states. Lawful c.args.self.now.number (noted c.args.key (MergedFact c.args.body states) c.args.self.now.book)) (sym states) c.requires.lawful
