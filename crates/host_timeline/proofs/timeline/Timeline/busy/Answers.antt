use Rattle.std.proofs.Common.{◌≡◌, ◌∙◌, ap}
use Rattle.host_timeline.specs.Busy.{is_busy}
use Rattle.host_timeline.specs.Timeline.{Timeline}
use Rattle.host_timeline.proofs.timeline.Timeline.busy.Goals as goal

pub returns-clause-same : goal.returns-clause-same
returns-clause-same c second =
    let seen : c.self.inside.bookings.list ≡ c.args.self.now.list = ap (λ (t : Timeline). t.list) c.self.view_is in
    c.of.ensures.covered c.self.inside.bookings.list c.self.inside.places c.self.invariant.are_busy second ∙ ap (λ l. is_busy c.args.class l second) seen
