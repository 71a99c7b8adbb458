use Rattle.std.proofs.Common.{◌≡◌, ◌∙◌, ◌&&◌, Bool, Some, ap, ap₂, sym, subst}
use Rattle.host_timeline.specs.declared.booking.Booking.{Booking}
use Rattle.host_timeline.specs.Booking.{conflicting_after, conflicts_with, is_after, key_and, keys_of, least_key, lesser_of}
use Rattle.host_timeline.proofs.Least.{decided_least}
use Rattle.host_timeline.proofs.Tests.{and_false}
use Rattle.host_timeline.specs.Timeline.{Timeline, IsAscendingBookings}
use Rattle.host_timeline.proofs.WalkLemmas.{none_after, walk_on}
use Rattle.host_timeline.proofs.timeline.Timeline.next_conflict.Goals as goal

-- none is in conflict
pub returns-in_err-exclusive-clause-least : goal.returns-in_err-exclusive-clause-least
returns-in_err-exclusive-clause-least c =
    c.from_residual.ensures ∙ ap (λ l. least_key (keys_of l)) (sym (none_after c.args.class c.args.interval.now c.args.after c.args.self.now.list c.in_err-exclusive.ensures.clear))

pub returns-in_err-exclusive-clause-walk : goal.returns-in_err-exclusive-clause-walk
returns-in_err-exclusive-clause-walk c =
    ap keys_of (none_after c.args.class c.args.interval.now c.args.after c.args.self.now.list c.in_err-exclusive.ensures.clear)
    ∙ sym (ap (λ o. key_and o (λ key. keys_of (conflicting_after c.args.class c.args.interval.now (Some key) c.args.self.now.list))) c.from_residual.ensures)

-- the least of the two lists
pub returns-clause-least : goal.returns-clause-least
returns-clause-least c =
    let interval = c.args.interval.now in
    let passes : Booking → Bool = λ b. is_after c.args.after b.key && conflicts_with c.args.class interval b in
    c.lesser_of.ensures ∙ ap₂ lesser_of c.least_conflict.ensures c.least_conflict-2.ensures
    ∙ decided_least passes c.args.class interval.start (Some interval.end) c.args.self.now.list c.in_ok-exclusive.exclusive c.in_ok-exclusive.normal c.in_ok-exclusive.ensures.decide (λ b off. ap (λ x. is_after c.args.after b.key && x) off ∙ and_false (is_after c.args.after b.key))

pub returns-clause-walk : goal.returns-clause-walk
returns-clause-walk c =
    let seen : c.self.inside.bookings.list ≡ c.args.self.now.list = ap (λ (t : Timeline). t.list) c.self.view_is in
    walk_on c.args.class c.args.interval.now c.args.after c.args.self.now.list c.lesser_of.result (subst IsAscendingBookings seen c.self.invariant.in_order.ascending) (returns-clause-least c)
