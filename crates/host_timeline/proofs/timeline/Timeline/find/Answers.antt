use Rattle.std.proofs.Common.{◌≡◌, ◌∙◌, Some, ap, sym}
use Rattle.host_timeline.specs.Timeline.{Timeline, IsPlaceOf, find_booking}
use Rattle.host_timeline.proofs.Place.{find_gap, find_place}
use Rattle.host_timeline.proofs.timeline.Timeline.find.Goals as goal

-- the booking at the place has the key
pub returns-in-Ok : goal.returns-in-Ok
returns-in-Ok c =
    let seen : c.self.inside.bookings.list ≡ c.args.self.now.list = ap (λ (t : Timeline). t.list) c.self.view_is in
    let place : IsPlaceOf c.self.inside.bookings.list c.args.key c.in-Ok.at = rw seen c.in-Ok.ensures.found in
    ap Some c.index.ensures ∙ sym (find_place _ c.self.invariant.in_order _ _ c.index.result.now place) ∙ ap (λ l. find_booking l c.args.key) seen

-- no booking has it
pub returns-in-Err : goal.returns-in-Err
returns-in-Err c = sym (find_gap _ _ _ c.in-Err.ensures.absent)
