use Rattle.std.proofs.Common.{◌≡◌, ◌-◌, ◌<◌, max, sym, ap, subst, arith}
use Rattle.ps_time.specs.Span.{Span}
use Rattle.host_timeline.specs.Lane.{Lane, IsFoundAt, IsOpenAt, place_of}
use Rattle.host_timeline.proofs.LaneLemmas.{find_found, insert_open, lane_after_insert}
use Rattle.host_timeline.proofs.lane.Lane.insert.Goals as goal

-- the place is new, so no booking has it
pub unreachable-requires : goal.unreachable-requires
unreachable-requires c =
    let seen : c.self.inside.bookings.list ≡ c.args.self.now.list = ap (λ (l : Lane). l.list) c.self.view_is in
    let found : IsFoundAt c.self.inside.bookings.list (place_of c.args.booking.now) c.in-Ok.field-0 = subst (λ p. IsFoundAt c.self.inside.bookings.list p c.in-Ok.field-0) c.place_of.ensures (rw seen c.in-Ok.ensures.found) in
    let finds = rw seen at (find_found _ c.self.inside.longest c.self.invariant _ _ c.args.booking.now found) in
    cc (finds, c.requires.new_place)

-- the booking goes into the gap
pub invariant_of-self : goal.invariant_of-self
invariant_of-self c =
    let seen : c.self.inside.bookings.list ≡ c.args.self.now.list = ap (λ (l : Lane). l.list) c.self.view_is in
    let gap : IsOpenAt c.self.inside.bookings.list (place_of c.args.booking.now) c.in-Err.at = subst (λ p. IsOpenAt c.self.inside.bookings.list p c.in-Err.at) c.place_of.ensures (rw seen c.in-Err.ensures.absent) in
    let start : c.interval.inside.start ≡ c.args.booking.now.interval.start = ap (λ (i : Span). i.start) c.interval.view_is in
    let end : c.interval.inside.end ≡ c.args.booking.now.interval.end = ap (λ (i : Span). i.end) c.interval.view_is in
    let longest : c.max-self-inside.result ≡ max c.self.inside.longest (c.args.booking.now.interval.end - c.args.booking.now.interval.start) = omega (arith, c.max-self-inside.ensures, start, end) in
    let some = subst (λ (i : Span). i.start < i.end) c.interval.view_is c.interval.invariant in
    rw (c.insert.ensures.list, longest) (lane_after_insert _ _ _ gap _ some c.self.invariant)

pub returns-clause-list : goal.returns-clause-list
returns-clause-list c =
    let seen : c.self.inside.bookings.list ≡ c.args.self.now.list = ap (λ (l : Lane). l.list) c.self.view_is in
    let gap : IsOpenAt c.self.inside.bookings.list (place_of c.args.booking.now) c.in-Err.at = subst (λ p. IsOpenAt c.self.inside.bookings.list p c.in-Err.at) c.place_of.ensures (rw seen c.in-Err.ensures.absent) in
    rw (c.insert.ensures.list, ← seen) (sym (insert_open _ _ _ gap))
