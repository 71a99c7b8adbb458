use Rattle.std.proofs.Common.{◌≡◌, ◌∙◌, sym, ap}
use Rattle.host_timeline.specs.Lane.{Lane, IsFoundAt, without_place}
use Rattle.host_timeline.proofs.LaneLemmas.{remove_found, remove_open, lane_after_remove}
use Rattle.host_timeline.proofs.lane.Lane.remove.Goals as goal

-- the booking at the place goes, and the order stays
pub invariant_of-self : goal.invariant_of-self
invariant_of-self c =
    let seen : c.self.inside.bookings.list ≡ c.args.self.now.list = ap (λ (l : Lane). l.list) c.self.view_is in
    let found : IsFoundAt c.self.inside.bookings.list c.args.place c.in-Ok.at = rw seen c.in-Ok.ensures.found in
    rw c.remove.ensures.list (lane_after_remove _ _ c.self.invariant _ _ c.remove.result found)

pub returns-in-Ok-clause-list : goal.returns-in-Ok-clause-list
returns-in-Ok-clause-list c =
    let seen : c.self.inside.bookings.list ≡ c.args.self.now.list = ap (λ (l : Lane). l.list) c.self.view_is in
    let found : IsFoundAt c.self.inside.bookings.list c.args.place c.in-Ok.at = rw seen c.in-Ok.ensures.found in
    c.remove.ensures.list ∙ sym (remove_found _ _ c.self.invariant _ _ c.remove.result found) ∙ ap (λ l. without_place l c.args.place) seen

-- no booking has the place
pub returns-in-Err-clause-list : goal.returns-in-Err-clause-list
returns-in-Err-clause-list c = sym (remove_open _ _ _ c.in-Err.ensures.absent)
