use Rattle.std.proofs.Common.{◌≤◌, subst, arith}
use Rattle.host_timeline.proofs.LaneLemmas.{late_from}
use Rattle.host_timeline.proofs.lane.first_from.Goals as goal

-- it doesn't start before the moment, nor do those behind it
pub returns-then-moment-start_at-clause-others : goal.returns-then-moment-start_at-clause-others
returns-then-moment-start_at-clause-others c =
    late_from c.args.moment c.args.bookings.now.list c.requires.ascending c.loop-place.place (omega (arith, c.loop-place-test.true, c.len-place-end.ensures)) (λ d. subst (λ n. c.args.moment ≤ n) (c.start_at.ensures d) c.if-moment-start_at.true)
