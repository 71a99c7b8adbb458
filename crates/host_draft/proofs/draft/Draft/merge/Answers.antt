use Rattle.std.proofs.Common.{◌≡◌, ◌≤◌, ◌+◌, ◌-◌, ◌++◌, ◌∷◌, ◌∙◌, [], refl, ap, ap₂, sym, subst, arith}
use Rattle.host_model.specs.Apply.{put_new}
use Rattle.host_model.specs.declared.change.Change.TheVariants.{Merged}
use Rattle.run_states.specs.Rows.{change_row}
use Rattle.std.proofs.Common.{false, length}
use Rattle.archive_retry.specs.Merge.{IsTreeText}
use Rattle.run_states.specs.Effect.{merge_row, noted_row}
use Rattle.run_states.specs.Rows.{find_row}
use Rattle.run_states.specs.declared.fact.Fact.TheVariants.{Merged as MergedFact}
use Rattle.host_model.specs.Effect.{archives_of, states_due}
use Rattle.host_book.proofs.MergingLemmas.{few_archives}
use Rattle.host_book.specs.Ready.{is_merged}
use Rattle.host_rows.specs.Ledger.{most_counted}
use Rattle.host_rows.proofs.RowLemmas.{fact_brings}
use Rattle.host_draft.specs.Draft.{Seen, book_now}
use Rattle.host_draft.proofs.KindLemmas.{merge_text}
use Rattle.host_draft.proofs.MakeLemmas.{after, brought_within, can, copy_within, grown_kept, shown_made, touched_kept}
use Rattle.draft_parts.specs.Overlay.{below}
use Rattle.host_draft.proofs.draft.Draft.merge.Goals as goal

-- the task has few archives
pub states_due-archives-requires-clause-enough : goal.states_due-archives-requires-clause-enough
states_due-archives-requires-clause-enough c =
    let d = c.self.inside in
    let now = book_now d.moment d.log.changes d.book.now.book in
    let few = few_archives now.moment now.tasks c.args.key c.self.invariant.lawful.tasks in
    let places = c.in_ok-places.ensures.places in
    let same = ap (λ l. length (archives_of l c.args.key)) (c.tasks.ensures ∙ sym c.self.invariant.tasks) in
    omega (arith, few, places, same)

-- one more copy changes nothing
pub invariant_of-self-in_err-places : goal.invariant_of-self-in_err-places
invariant_of-self-in_err-places c =
    let d = c.self.inside in
    let copied = c.in_ok-touch.ensures.ok ∙ ap₂ (λ g l. put_new (below g l c.args.key) d.touched.list) c.as_slice-gone.ensures.value c.rows.ensures.list in
    touched_kept d.book.now.number d.moment d.book.now.book d.log.changes d.touched.list d.gone.items d.epoch d.count d.bytes d.log.left c.self.invariant c.args.key c.touch.new.touched.list c.reserve.new.self.changes c.reserve.new.self.left c.in_ok-reserve.ensures.changes c.in_ok-reserve.ensures.left copied

-- one more copy changes nothing
pub invariant_of-self-in_err-kept : goal.invariant_of-self-in_err-kept
invariant_of-self-in_err-kept c =
    let d = c.self.inside in
    let copied = c.in_ok-touch.ensures.ok ∙ ap₂ (λ g l. put_new (below g l c.args.key) d.touched.list) c.as_slice-gone.ensures.value c.rows.ensures.list in
    touched_kept d.book.now.number d.moment d.book.now.book d.log.changes d.touched.list d.gone.items d.epoch d.count d.bytes d.log.left c.self.invariant c.args.key c.touch.new.touched.list c.reserve.new.self.changes c.reserve.new.self.left c.in_ok-reserve.ensures.changes c.in_ok-reserve.ensures.left copied

-- the result that comes is a tree
pub note-self-inside-requires-clause-results : goal.note-self-inside-requires-clause-results
note-self-inside-requires-clause-results c =
    let d = c.self.inside in
    let unmerged : is_merged (find_row (book_now d.moment d.log.changes d.book.now.book).rows c.args.key) ≡ false = subst (λ (x : Seen). is_merged (find_row x.draft.book.rows c.args.key) ≡ false) (sym c.self.view_is) c.requires.unmerged in
    subst IsTreeText (sym c.in_ok-kept.ensures)
    (merge_text d.book.now.number d.moment (book_now d.moment d.log.changes d.book.now.book) c.self.invariant.at c.self.invariant.lawful c.args.key c.args.body (can d.book.now.number d.moment d.limits.now d.book.now.book d.log.changes d.touched.list d.gone.items d.epoch d.count d.bytes d.log.places d.log.left c.self.invariant c.args.self.now c.self.view_is c.args.length (Merged c.args.key c.args.body) c.requires.admitted) unmerged (after d.book.now.number d.moment d.limits.now d.book.now.book d.log.changes d.touched.list d.gone.items d.epoch d.count d.bytes d.log.places d.log.left c.self.invariant c.args.self.now c.self.view_is c.args.length (Merged c.args.key c.args.body) c.requires.admitted))

pub note-self-inside-requires-clause-before : goal.note-self-inside-requires-clause-before
note-self-inside-requires-clause-before c =
    let d = c.self.inside in
    let copied : c.touch.new.touched.list ≡ put_new (below d.gone.items d.book.now.book.rows c.args.key) d.touched.list = c.in_ok-touch.ensures.ok ∙ ap₂ (λ g l. put_new (below g l c.args.key) d.touched.list) c.as_slice-gone.ensures.value c.rows.ensures.list in
    copy_within d.book.now.number d.moment d.limits.now d.book.now.book d.log.changes d.touched.list d.gone.items d.epoch d.count d.bytes d.log.places d.log.left c.self.invariant c.args.self.now c.self.view_is c.args.length (Merged c.args.key c.args.body) c.requires.admitted (noted_row (MergedFact c.args.body (states_due d.moment (archives_of (book_now d.moment d.log.changes d.book.now.book).tasks c.args.key))) d.moment) (λ r. refl) c.args.key refl refl refl (length c.args.body) (λ r. fact_brings (MergedFact c.args.body (states_due d.moment (archives_of (book_now d.moment d.log.changes d.book.now.book).tasks c.args.key))) d.moment r) (let long = c.requires.admitted.bytes in omega (arith, long)) c.touch.new.touched.list copied

pub note-self-inside-requires-clause-room : goal.note-self-inside-requires-clause-room
note-self-inside-requires-clause-room c =
    let d = c.self.inside in
    subst (λ l. d.bytes + length l ≤ most_counted) (sym c.in_ok-kept.ensures) (brought_within d.book.now.number d.moment d.limits.now d.book.now.book d.log.changes d.touched.list d.gone.items d.epoch d.count d.bytes d.log.places d.log.left c.self.invariant c.args.self.now c.self.view_is c.args.length (Merged c.args.key c.args.body) c.requires.admitted (noted_row (MergedFact c.args.body (states_due d.moment (archives_of (book_now d.moment d.log.changes d.book.now.book).tasks c.args.key))) d.moment) (λ r. refl) c.args.key refl refl refl (length c.args.body) (λ r. fact_brings (MergedFact c.args.body (states_due d.moment (archives_of (book_now d.moment d.log.changes d.book.now.book).tasks c.args.key))) d.moment r) (let long = c.requires.admitted.bytes in omega (arith, long)))

-- the copy of the row is merged
pub invariant_of-self-2 : goal.invariant_of-self-2
invariant_of-self-2 c =
    let d = c.self.inside in
    let copied : c.touch.new.touched.list ≡ put_new (below d.gone.items d.book.now.book.rows c.args.key) d.touched.list = c.in_ok-touch.ensures.ok ∙ ap₂ (λ g l. put_new (below g l c.args.key) d.touched.list) c.as_slice-gone.ensures.value c.rows.ensures.list in
    let states : c.states_due-archives.result ≡ (states_due d.moment (archives_of (book_now d.moment d.log.changes d.book.now.book).tasks c.args.key)) = c.states_due-archives.ensures ∙ ap (λ l. states_due d.moment (archives_of l c.args.key)) (c.tasks.ensures ∙ sym c.self.invariant.tasks) in
    grown_kept d.book.now.number d.moment d.limits.now d.book.now.book d.log.changes d.touched.list d.gone.items d.epoch d.count d.bytes d.log.places d.log.left c.self.invariant c.args.self.now c.self.view_is c.args.length (Merged c.args.key c.args.body) c.requires.admitted (noted_row (MergedFact c.args.body (states_due d.moment (archives_of (book_now d.moment d.log.changes d.book.now.book).tasks c.args.key))) d.moment) (λ r. refl) c.args.key refl refl refl (length c.args.body) (λ r. fact_brings (MergedFact c.args.body (states_due d.moment (archives_of (book_now d.moment d.log.changes d.book.now.book).tasks c.args.key))) d.moment r) (let long = c.requires.admitted.bytes in omega (arith, long)) c.push.new.self.changes c.touch.new.touched.list c.note-self-inside.new.rows.list c.note-self-inside.result c.push.new.self.left
    (c.push.ensures.changes ∙ ap (λ l. l ++ Merged c.args.key c.args.body ∷ []) c.in_ok-reserve.ensures.changes)
    copied
    (c.note-self-inside.ensures.rows ∙ ap₂ (λ s b. change_row (merge_row s b) c.touch.new.touched.list c.args.key) states c.in_ok-kept.ensures)
    c.note-self-inside.ensures.bytes
    (c.push.ensures.left ∙ ap (λ n. n - c.args.length) c.in_ok-reserve.ensures.left)

pub returns-clause-made : goal.returns-clause-made
returns-clause-made c =
    let d = c.self.inside in
    shown_made d.book.now.number d.moment d.limits.now d.book.now.book d.log.changes d.touched.list d.gone.items d.epoch d.count d.bytes d.log.places d.log.left c.self.invariant c.args.self.now c.self.view_is c.args.length (Merged c.args.key c.args.body) c.requires.admitted c.push.new.self.changes c.push.new.self.places c.push.new.self.left
    (c.push.ensures.changes ∙ ap (λ l. l ++ Merged c.args.key c.args.body ∷ []) c.in_ok-reserve.ensures.changes)
    (c.push.ensures.places ∙ ap (λ n. n - 1) c.in_ok-reserve.ensures.places)
    (c.push.ensures.left ∙ ap (λ n. n - c.args.length) c.in_ok-reserve.ensures.left)
