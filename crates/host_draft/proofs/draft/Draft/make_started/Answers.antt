use Rattle.std.proofs.Common.{◌-◌, ◌++◌, ◌∷◌, ◌∙◌, [], refl, ap, ap₂}
use Rattle.host_model.specs.Apply.{put_new}
use Rattle.host_model.specs.declared.change.Change.TheVariants.{Started}
use Rattle.run_states.specs.Rows.{change_row}
use Rattle.run_states.specs.Life.{start_row}
use Rattle.host_draft.proofs.MakeLemmas.{shown_made, steady_kept}
use Rattle.draft_parts.specs.Overlay.{below}
use Rattle.host_draft.proofs.draft.Draft.make_started.Goals as goal

-- the copy of the row starts
pub invariant_of-self-2 : goal.invariant_of-self-2
invariant_of-self-2 c =
    let d = c.self.inside in
    let copied = c.in_ok-touch.ensures.ok ∙ ap₂ (λ g l. put_new (below g l c.args.key) d.touched.list) c.as_slice-gone.ensures.value c.rows.ensures.list in
    steady_kept d.book.now.number d.moment d.limits.now d.book.now.book d.log.changes d.touched.list d.gone.items d.epoch d.count d.bytes d.log.places d.log.left c.self.invariant c.args.self.now c.self.view_is c.args.length (Started c.args.key) c.requires
    (start_row d.moment) (λ r. refl) c.args.key refl refl refl (λ r. refl) c.push.new.self.changes c.mark.new.self.list c.push.new.self.left
    (c.push.ensures.changes ∙ ap (λ l. l ++ Started c.args.key ∷ []) c.in_ok-reserve.ensures.changes)
    (c.mark.ensures.rows ∙ ap (λ l. change_row (start_row d.moment) l c.args.key) copied)
    (c.push.ensures.left ∙ ap (λ n. n - c.args.length) c.in_ok-reserve.ensures.left)

pub returns-clause-made : goal.returns-clause-made
returns-clause-made c =
    let d = c.self.inside in
    shown_made d.book.now.number d.moment d.limits.now d.book.now.book d.log.changes d.touched.list d.gone.items d.epoch d.count d.bytes d.log.places d.log.left c.self.invariant c.args.self.now c.self.view_is c.args.length (Started c.args.key) c.requires c.push.new.self.changes c.push.new.self.places c.push.new.self.left
    (c.push.ensures.changes ∙ ap (λ l. l ++ Started c.args.key ∷ []) c.in_ok-reserve.ensures.changes)
    (c.push.ensures.places ∙ ap (λ n. n - 1) c.in_ok-reserve.ensures.places)
    (c.push.ensures.left ∙ ap (λ n. n - c.args.length) c.in_ok-reserve.ensures.left)
