use Rattle.std.proofs.Common.{rules, sym, subst}
use Rattle.std.proofs.lemmas.List.Sorted.{IsPartitionPoint-from_clause}
use Rattle.std.specs.Ordering.{is_lt}
use Rattle.host_timeline.specs.Lane.{place_cmp, place_of, IsAscendingPlaces}
use Rattle.host_timeline.proofs.FoundLemmas.{parts_below}
use Rattle.host_timeline.proofs.LaneLemmas.{place_cmp_total}
use Rattle.host_timeline.proofs.lent.LentBookings.before_place.Goals as goal

-- places rise along the lane
pub returns-clause-parted : goal.returns-clause-parted
returns-clause-parted c =
    rw (← c.self.view_is) (IsPartitionPoint-from_clause (λ b. is_lt (place_cmp (place_of b) c.args.place)) c.self.inside.bookings c.partition_point.result c.partition_point.ensures.partitioned
    (parts_below place_cmp_total place_of c.self.inside.bookings (subst IsAscendingPlaces (sym c.self.view_is) c.requires) c.args.place) (λ a r f called. search rules))
