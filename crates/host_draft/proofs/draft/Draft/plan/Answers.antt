use Rattle.std.proofs.Common.{◌-◌, ◌++◌, ◌∷◌, ◌∙◌, [], ap, ap₂}
use Rattle.host_model.specs.Apply.{put_new}
use Rattle.host_model.specs.declared.change.Change.TheVariants.{Planned}
use Rattle.run_states.specs.Rows.{change_row}
use Rattle.run_states.specs.Effect.{noted_row}
use Rattle.run_states.specs.declared.fact.Fact.TheVariants.{Planned as PlannedFact}
use Rattle.host_timeline.specs.Booking.{conflicting, keys_of}
use Rattle.host_rows.specs.Closing.{closed_keys}
use Rattle.draft_parts.specs.Way.{touched_each}
use Rattle.host_draft.proofs.MakeLemmas.{shown_made}
use Rattle.host_draft.proofs.PlanLemmas.{plan_kept}
use Rattle.draft_parts.specs.Overlay.{below}
use Rattle.host_draft.proofs.draft.Draft.plan.Goals as goal

-- the copies of the rows in conflict are closed, and that of the run is accepted
pub invariant_of-self-2 : goal.invariant_of-self-2
invariant_of-self-2 c =
    let d = c.self.inside in
    let run = c.args.run in
    let bookings = c.timeline-timeline.result.now.list in
    plan_kept d.book.now.number d.moment d.limits.now d.book.now.book d.log.changes d.touched.list d.gone.items d.epoch d.count d.bytes d.log.places d.log.left c.self.invariant c.args.self.now c.self.view_is c.args.length run c.args.start c.args.tool c.args.epoch c.requires.admitted c.requires.run
    c.copy_way.new.touched.list bookings c.timeline-timeline.ensures c.in_ok-way.ensures.ascending
    (c.in_ok-way.ensures.touched ∙ ap₂ (λ g l. put_new (below g l run.key) (touched_each g l (keys_of (conflicting run.class run.interval bookings)) d.touched.list)) c.as_slice-gone.ensures.value c.rows-rows.ensures.list)
    c.push.new.self.changes c.note.new.self.list c.push.new.self.left
    (c.push.ensures.changes ∙ ap (λ l. l ++ Planned c.args.run.key c.args.start c.args.tool c.args.epoch ∷ []) c.in_ok-reserve.ensures.changes)
    (c.note.ensures.rows ∙ ap₂ (λ t l. change_row (noted_row (PlannedFact t run.interval) d.moment) l run.key) c.in_ok-name.ensures (c.close_each.ensures ∙ ap (λ ks. closed_keys d.moment run.key ks c.copy_way.new.touched.list) (c.as_slice.ensures.value ∙ c.in_ok-way.ensures.keys)))
    (c.push.ensures.left ∙ ap (λ n. n - c.args.length) c.in_ok-reserve.ensures.left)

pub returns-clause-made : goal.returns-clause-made
returns-clause-made c =
    let d = c.self.inside in
    shown_made d.book.now.number d.moment d.limits.now d.book.now.book d.log.changes d.touched.list d.gone.items d.epoch d.count d.bytes d.log.places d.log.left c.self.invariant c.args.self.now c.self.view_is c.args.length (Planned c.args.run.key c.args.start c.args.tool c.args.epoch) c.requires.admitted c.push.new.self.changes c.push.new.self.places c.push.new.self.left
    (c.push.ensures.changes ∙ ap (λ l. l ++ Planned c.args.run.key c.args.start c.args.tool c.args.epoch ∷ []) c.in_ok-reserve.ensures.changes)
    (c.push.ensures.places ∙ ap (λ n. n - 1) c.in_ok-reserve.ensures.places)
    (c.push.ensures.left ∙ ap (λ n. n - c.args.length) c.in_ok-reserve.ensures.left)
