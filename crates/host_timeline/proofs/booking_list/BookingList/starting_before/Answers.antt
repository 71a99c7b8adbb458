use Rattle.std.proofs.Common.{◌≡◌, ◌∙◌, ltb, rules, ap, subst, sym}
use Rattle.std.specs.List.Sorted.{IsNonDecreasing}
use Rattle.std.proofs.lemmas.List.Sorted.{IsPartitionPoint-from_clause, IsPartitionedBy-ltb}
use Rattle.ps_lists.specs.PlacedList.{PlacedList}
use Rattle.host_timeline.specs.declared.booking.Booking.{Booking}
use Rattle.host_timeline.specs.Lane.{starts_of, IsAscendingPlaces}
use Rattle.host_timeline.proofs.StartLemmas.{parts_bookings, starts_ascend}
use Rattle.host_timeline.proofs.booking_list.BookingList.starting_before.Goals as goal

-- the starts rise
pub returns-clause-parted : goal.returns-clause-parted
returns-clause-parted c =
    let bs = c.self.inside.bookings.list in
    let ns = c.in_order.result in
    let seen : bs ≡ c.args.self.now.list = ap (λ (l : PlacedList Booking). l.list) c.self.view_is in
    let starts : ns ≡ starts_of bs = c.in_order.ensures ∙ c.self.invariant in
    let rise = subst IsNonDecreasing (sym starts) (starts_ascend bs (subst IsAscendingPlaces (sym seen) c.requires)) in
    let point = IsPartitionPoint-from_clause (λ n. ltb n c.args.moment) ns c.partition_point.result c.partition_point.ensures.partitioned (IsPartitionedBy-ltb (λ n. n) ns c.args.moment rise) (λ a r f called. search rules) in
    rw (← seen) (parts_bookings (λ n. ltb n c.args.moment) bs ns starts c.partition_point.result c.partition_point.ensures.bound point)
