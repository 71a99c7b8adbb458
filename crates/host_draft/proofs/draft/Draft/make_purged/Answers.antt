use Rattle.std.proofs.Common.{◌≡◌, ◌-◌, ◌++◌, ◌∷◌, ◌∙◌, [], refl, ap, ap₂}
use Rattle.host_model.specs.declared.change.Change.TheVariants.{Purged}
use Rattle.std.proofs.Common.{min}
use Rattle.host_rows.specs.Ledger.{bytes_at, most_counted}
use Rattle.host_draft.specs.Draft.{book_now}
use Rattle.draft_parts.specs.Overlay.{over}
use Rattle.host_draft.proofs.KindLemmas.{purge_rows}
use Rattle.host_draft.proofs.MakeLemmas.{can, purge_within, purged_kept, shown_made}
use Rattle.host_draft.proofs.draft.Draft.make_purged.Goals as goal

-- its results are among those of all
pub overflow_sub-self : goal.overflow_sub-self
overflow_sub-self c =
    let d = c.self.inside in
    purge_within d.book.now.number d.moment d.limits.now d.book.now.book d.log.changes d.touched.list d.gone.items d.epoch d.count d.bytes d.log.places d.log.left c.self.invariant c.args.self.now c.self.view_is c.args.length (Purged c.args.key) c.requires c.args.key refl refl (purge_rows d.book.now.number d.moment (book_now d.moment d.log.changes d.book.now.book) c.self.invariant.at c.self.invariant.lawful c.args.key) (can d.book.now.number d.moment d.limits.now d.book.now.book d.log.changes d.touched.list d.gone.items d.epoch d.count d.bytes d.log.places d.log.left c.self.invariant c.args.self.now c.self.view_is c.args.length (Purged c.args.key) c.requires) c.bytes_over.result
    (c.bytes_over.ensures ∙ ap₂ (λ g l. min (bytes_at (over d.touched.list g l c.args.key)) most_counted) (c.as_slice-gone.ensures.value ∙ c.in_ok-reserve-2.ensures.items) c.rows.ensures.list)

-- the copy of the row goes, and its key is one that went
pub invariant_of-self-2 : goal.invariant_of-self-2
invariant_of-self-2 c =
    let d = c.self.inside in
    let went : c.push.new.self.items ≡ c.reserve-2.new.self.items ++ c.args.key ∷ [] = rw (c.push.ensures.items, c.unwrap.ensures) refl in
    purged_kept d.book.now.number d.moment d.limits.now d.book.now.book d.log.changes d.touched.list d.gone.items d.epoch d.count d.bytes d.log.places d.log.left c.self.invariant c.args.self.now c.self.view_is c.args.length (Purged c.args.key) c.requires c.args.key refl refl (purge_rows d.book.now.number d.moment (book_now d.moment d.log.changes d.book.now.book) c.self.invariant.at c.self.invariant.lawful c.args.key) (can d.book.now.number d.moment d.limits.now d.book.now.book d.log.changes d.touched.list d.gone.items d.epoch d.count d.bytes d.log.places d.log.left c.self.invariant c.args.self.now c.self.view_is c.args.length (Purged c.args.key) c.requires) c.bytes_over.result
    (c.bytes_over.ensures ∙ ap₂ (λ g l. min (bytes_at (over d.touched.list g l c.args.key)) most_counted) (c.as_slice-gone.ensures.value ∙ c.in_ok-reserve-2.ensures.items) c.rows.ensures.list)
    c.push-2.new.self.changes c.purge.new.self.list c.push.new.self.items c.push-2.new.self.left
    (c.push-2.ensures.changes ∙ ap (λ l. l ++ Purged c.args.key ∷ []) c.in_ok-reserve.ensures.changes)
    c.purge.ensures.rows
    (went ∙ ap (λ l. l ++ c.args.key ∷ []) c.in_ok-reserve-2.ensures.items)
    (c.push-2.ensures.left ∙ ap (λ n. n - c.args.length) c.in_ok-reserve.ensures.left)

pub returns-clause-made : goal.returns-clause-made
returns-clause-made c =
    let d = c.self.inside in
    shown_made d.book.now.number d.moment d.limits.now d.book.now.book d.log.changes d.touched.list d.gone.items d.epoch d.count d.bytes d.log.places d.log.left c.self.invariant c.args.self.now c.self.view_is c.args.length (Purged c.args.key) c.requires c.push-2.new.self.changes c.push-2.new.self.places c.push-2.new.self.left
    (c.push-2.ensures.changes ∙ ap (λ l. l ++ Purged c.args.key ∷ []) c.in_ok-reserve.ensures.changes)
    (c.push-2.ensures.places ∙ ap (λ n. n - 1) c.in_ok-reserve.ensures.places)
    (c.push-2.ensures.left ∙ ap (λ n. n - c.args.length) c.in_ok-reserve.ensures.left)
