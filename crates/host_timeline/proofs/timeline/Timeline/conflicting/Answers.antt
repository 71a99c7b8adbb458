use Rattle.std.specs.Result.{IfOk}
use Rattle.std.proofs.Common.{◌≡◌, ◌∙◌, ap, subst}
use Rattle.std.specs.List.{filter_map}
use Rattle.host_timeline.specs.Booking.{conflicting, conflicts_with}
use Rattle.host_timeline.specs.Timeline.{Timeline, find_booking, IsAscendingBookings}
use Rattle.host_timeline.proofs.KeysLemmas.{found_again}
use Rattle.host_timeline.proofs.timeline.Timeline.conflicting.Goals as goal

-- the keys of those in conflict find them again
pub returns : goal.returns
returns c =
    let bs = c.args.self.now.list in
    let seen : c.self.inside.bookings.list ≡ bs = ap (λ (t : Timeline). t.list) c.self.view_is in
    let found : filter_map (find_booking bs) c.as_slice.result.now ≡ conflicting c.args.class c.args.interval.now bs =
    ap (filter_map (find_booking bs)) (c.as_slice.ensures ∙ c.in_ok-keys.ensures.keys) ∙ found_again (conflicts_with c.args.class c.args.interval.now) bs (subst IsAscendingBookings seen c.self.invariant.in_order.ascending) in
    subst (λ l. IfOk c.bookings_of.result (λ made. made.items ≡ l)) found c.bookings_of.ensures
