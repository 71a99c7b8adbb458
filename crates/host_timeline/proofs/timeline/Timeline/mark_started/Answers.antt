use Rattle.std.proofs.Common.{◌≡◌, ◌∙◌, sym, ap, subst, set}
use Rattle.host_timeline.specs.Indexed.{IsIndexed}
use Rattle.host_timeline.specs.Timeline.{Timeline, IsPlaceOf, started_booking}
use Rattle.host_timeline.proofs.IndexedLemmas.{indexed_start}
use Rattle.host_timeline.proofs.Place.{start_place, start_gap}
use Rattle.host_timeline.proofs.timeline.Timeline.mark_started.Goals as goal

-- the booking at the place is changed, and keeps its key
pub invariant_of-self : goal.invariant_of-self
invariant_of-self c =
    let seen : c.self.inside.bookings.list ≡ c.args.self.now.list = ap (λ (t : Timeline). t.list) c.self.view_is in
    let place : IsPlaceOf c.self.inside.bookings.list c.args.key c.in-Ok.at = rw seen c.in-Ok.ensures.found in
    let written = ap (set c.self.inside.bookings.list c.in-Ok.at) (c.started.ensures ∙ ap started_booking c.index.ensures) in
    subst (λ l. IsIndexed l c.self.inside.bookings.places c.self.inside.places c.mark_started.new.self c.self.inside.busy) (sym (written ∙ start_place _ c.self.invariant.in_order _ _ _ place))
    (indexed_start c.self.inside.bookings.list _ c.self.inside.places c.self.inside.lanes _ c.self.inside.busy c.self.invariant c.args.key c.in-Ok.at c.index.result.now place c.index.ensures c.mark_started.ensures)

pub returns-in-Ok-clause-list : goal.returns-in-Ok-clause-list
returns-in-Ok-clause-list c =
    let seen : c.self.inside.bookings.list ≡ c.args.self.now.list = ap (λ (t : Timeline). t.list) c.self.view_is in
    let place : IsPlaceOf c.self.inside.bookings.list c.args.key c.in-Ok.at = rw seen c.in-Ok.ensures.found in
    let written = ap (set c.self.inside.bookings.list c.in-Ok.at) (c.started.ensures ∙ ap started_booking c.index.ensures) in
    rw (← seen) (written ∙ start_place _ c.self.invariant.in_order _ _ _ place)

-- no booking has the key
pub returns-in-Err-clause-list : goal.returns-in-Err-clause-list
returns-in-Err-clause-list c = sym (start_gap _ _ _ c.in-Err.ensures.absent)
