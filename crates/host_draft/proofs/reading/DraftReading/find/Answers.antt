use Rattle.std.specs.Prelude.{IfSome}
use Rattle.std.proofs.Common.{◌∙◌, ap₂, subst, sym}
use Rattle.run_states.specs.Life.{HasMoments}
use Rattle.host_draft.specs.Draft.{book_now}
use Rattle.draft_parts.specs.Overlay.{over}
use Rattle.host_draft.proofs.ReadLemmas.{moments_now}
use Rattle.host_draft.proofs.reading.DraftReading.find.Goals as goal

-- the row that is found is one of a lawful book
pub returns-clause-moments : goal.returns-clause-moments
returns-clause-moments c =
    let d = c.self.inside in
    let row = c.find_over.ensures ∙ (ap₂ (λ g b. over d.touched.list g b c.args.key) c.as_slice.ensures.value c.rows.ensures.list ∙ sym (c.self.invariant.found c.args.key)) in
    subst (λ o. IfSome o HasMoments) (sym row) (moments_now d.book.now.number (book_now d.moment d.log.changes d.book.now.book) c.self.invariant.lawful c.args.key)
