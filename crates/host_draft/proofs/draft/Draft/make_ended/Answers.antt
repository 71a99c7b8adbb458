use Rattle.std.proofs.Common.{◌≡◌, ◌≤◌, ◌+◌, ◌-◌, ◌++◌, ◌∷◌, ◌∙◌, [], refl, ap, ap₂, sym, subst, arith}
use Rattle.host_model.specs.Apply.{put_new}
use Rattle.host_model.specs.declared.change.Change.TheVariants.{Ended}
use Rattle.run_states.specs.Rows.{change_row}
use Rattle.std.proofs.Common.{length}
use Rattle.archive_retry.specs.Merge.{IsResultText}
use Rattle.run_states.specs.Life.{end_row, marked_row}
use Rattle.run_states.specs.declared.life.LifeStep.TheVariants.{End}
use Rattle.host_rows.specs.Ledger.{most_counted}
use Rattle.host_rows.proofs.RowLemmas.{step_brings}
use Rattle.host_draft.specs.Draft.{book_now}
use Rattle.host_draft.proofs.KindLemmas.{end_result}
use Rattle.host_draft.proofs.MakeLemmas.{after, brought_within, can, copy_within, grown_kept, shown_made, touched_kept}
use Rattle.draft_parts.specs.Overlay.{below}
use Rattle.host_draft.proofs.draft.Draft.make_ended.Goals as goal

-- one more copy changes nothing
pub invariant_of-self-in_err-kept : goal.invariant_of-self-in_err-kept
invariant_of-self-in_err-kept c =
    let d = c.self.inside in
    let copied = c.in_ok-touch.ensures.ok ∙ ap₂ (λ g l. put_new (below g l c.args.key) d.touched.list) c.as_slice-gone.ensures.value c.rows.ensures.list in
    touched_kept d.book.now.number d.moment d.book.now.book d.log.changes d.touched.list d.gone.items d.epoch d.count d.bytes d.log.left c.self.invariant c.args.key c.touch.new.touched.list c.reserve.new.self.changes c.reserve.new.self.left c.in_ok-reserve.ensures.changes c.in_ok-reserve.ensures.left copied

-- the result that comes is a text of results
pub mark-self-inside-requires-clause-result : goal.mark-self-inside-requires-clause-result
mark-self-inside-requires-clause-result c =
    let d = c.self.inside in
    let now = book_now d.moment d.log.changes d.book.now.book in
    subst IsResultText (sym c.in_ok-kept.ensures)
    (end_result d.book.now.number d.moment now c.self.invariant.at c.self.invariant.lawful c.args.key c.args.good c.args.body (can d.book.now.number d.moment d.limits.now d.book.now.book d.log.changes d.touched.list d.gone.items d.epoch d.count d.bytes d.log.places d.log.left c.self.invariant c.args.self.now c.self.view_is c.args.length (Ended c.args.key c.args.good c.args.body) c.requires) (after d.book.now.number d.moment d.limits.now d.book.now.book d.log.changes d.touched.list d.gone.items d.epoch d.count d.bytes d.log.places d.log.left c.self.invariant c.args.self.now c.self.view_is c.args.length (Ended c.args.key c.args.good c.args.body) c.requires))

pub mark-self-inside-requires-clause-before : goal.mark-self-inside-requires-clause-before
mark-self-inside-requires-clause-before c =
    let d = c.self.inside in
    let copied : c.touch.new.touched.list ≡ put_new (below d.gone.items d.book.now.book.rows c.args.key) d.touched.list = c.in_ok-touch.ensures.ok ∙ ap₂ (λ g l. put_new (below g l c.args.key) d.touched.list) c.as_slice-gone.ensures.value c.rows.ensures.list in
    copy_within d.book.now.number d.moment d.limits.now d.book.now.book d.log.changes d.touched.list d.gone.items d.epoch d.count d.bytes d.log.places d.log.left c.self.invariant c.args.self.now c.self.view_is c.args.length (Ended c.args.key c.args.good c.args.body) c.requires (marked_row (End c.args.good c.args.body) d.moment) (λ r. refl) c.args.key refl refl refl (length c.args.body) (λ r. step_brings (End c.args.good c.args.body) d.moment r) (let long = c.requires.bytes in omega (arith, long)) c.touch.new.touched.list copied

pub mark-self-inside-requires-clause-room : goal.mark-self-inside-requires-clause-room
mark-self-inside-requires-clause-room c =
    let d = c.self.inside in
    subst (λ l. d.bytes + length l ≤ most_counted) (sym c.in_ok-kept.ensures) (brought_within d.book.now.number d.moment d.limits.now d.book.now.book d.log.changes d.touched.list d.gone.items d.epoch d.count d.bytes d.log.places d.log.left c.self.invariant c.args.self.now c.self.view_is c.args.length (Ended c.args.key c.args.good c.args.body) c.requires (marked_row (End c.args.good c.args.body) d.moment) (λ r. refl) c.args.key refl refl refl (length c.args.body) (λ r. step_brings (End c.args.good c.args.body) d.moment r) (let long = c.requires.bytes in omega (arith, long)))

-- the copy of the row ends
pub invariant_of-self-2 : goal.invariant_of-self-2
invariant_of-self-2 c =
    let d = c.self.inside in
    let copied : c.touch.new.touched.list ≡ put_new (below d.gone.items d.book.now.book.rows c.args.key) d.touched.list = c.in_ok-touch.ensures.ok ∙ ap₂ (λ g l. put_new (below g l c.args.key) d.touched.list) c.as_slice-gone.ensures.value c.rows.ensures.list in
    grown_kept d.book.now.number d.moment d.limits.now d.book.now.book d.log.changes d.touched.list d.gone.items d.epoch d.count d.bytes d.log.places d.log.left c.self.invariant c.args.self.now c.self.view_is c.args.length (Ended c.args.key c.args.good c.args.body) c.requires (marked_row (End c.args.good c.args.body) d.moment) (λ r. refl) c.args.key refl refl refl (length c.args.body) (λ r. step_brings (End c.args.good c.args.body) d.moment r) (let long = c.requires.bytes in omega (arith, long)) c.push.new.self.changes c.touch.new.touched.list c.mark-self-inside.new.rows.list c.mark-self-inside.result c.push.new.self.left
    (c.push.ensures.changes ∙ ap (λ l. l ++ Ended c.args.key c.args.good c.args.body ∷ []) c.in_ok-reserve.ensures.changes)
    copied
    (c.mark-self-inside.ensures.rows ∙ ap (λ b. change_row (end_row (record { moment = d.moment; good = c.args.good; body = b })) c.touch.new.touched.list c.args.key) c.in_ok-kept.ensures)
    c.mark-self-inside.ensures.bytes
    (c.push.ensures.left ∙ ap (λ n. n - c.args.length) c.in_ok-reserve.ensures.left)

pub returns-clause-made : goal.returns-clause-made
returns-clause-made c =
    let d = c.self.inside in
    shown_made d.book.now.number d.moment d.limits.now d.book.now.book d.log.changes d.touched.list d.gone.items d.epoch d.count d.bytes d.log.places d.log.left c.self.invariant c.args.self.now c.self.view_is c.args.length (Ended c.args.key c.args.good c.args.body) c.requires c.push.new.self.changes c.push.new.self.places c.push.new.self.left
    (c.push.ensures.changes ∙ ap (λ l. l ++ Ended c.args.key c.args.good c.args.body ∷ []) c.in_ok-reserve.ensures.changes)
    (c.push.ensures.places ∙ ap (λ n. n - 1) c.in_ok-reserve.ensures.places)
    (c.push.ensures.left ∙ ap (λ n. n - c.args.length) c.in_ok-reserve.ensures.left)
