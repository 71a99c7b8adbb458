use Rattle.std.proofs.Common.{◌≡◌, sym, ap, subst}
use Rattle.host_timeline.specs.Lane.{Lane, IsLane, IsFoundAt}
use Rattle.host_timeline.proofs.LaneLemmas.{started_found, start_open, lane_after_start}
use Rattle.host_timeline.proofs.lane.Lane.mark_started.Goals as goal

-- the booking at the place is changed, and keeps its place
pub invariant_of-self : goal.invariant_of-self
invariant_of-self c =
    let seen : c.self.inside.bookings.list ≡ c.args.self.now.list = ap (λ (l : Lane). l.list) c.self.view_is in
    let found : IsFoundAt c.self.inside.bookings.list c.args.place c.in-Ok.at = rw seen c.in-Ok.ensures.found in
    subst (λ l. IsLane l c.self.inside.longest) (sym (started_found _ _ _ c.self.invariant _ _ found c.mark_started.ensures.list)) (lane_after_start _ _ c.self.invariant _)

pub returns-in-Ok-clause-list : goal.returns-in-Ok-clause-list
returns-in-Ok-clause-list c =
    let seen : c.self.inside.bookings.list ≡ c.args.self.now.list = ap (λ (l : Lane). l.list) c.self.view_is in
    let found : IsFoundAt c.self.inside.bookings.list c.args.place c.in-Ok.at = rw seen c.in-Ok.ensures.found in
    rw (← seen) (started_found _ _ _ c.self.invariant _ _ found c.mark_started.ensures.list)

-- no booking has the place
pub returns-in-Err-clause-list : goal.returns-in-Err-clause-list
returns-in-Err-clause-list c = sym (start_open _ _ _ c.in-Err.ensures.absent)
