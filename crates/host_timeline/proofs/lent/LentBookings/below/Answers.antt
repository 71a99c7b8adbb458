use Rattle.std.proofs.Common.{rules, sym, subst}
use Rattle.std.proofs.lemmas.List.Sorted.{IsPartitionPoint-from_clause}
use Rattle.std.specs.Ordering.{is_lt}
use Rattle.ps_time.specs.Key.{key_cmp}
use Rattle.ps_time.proofs.KeyLemmas.{key_cmp_total}
use Rattle.host_timeline.specs.Timeline.{IsAscendingBookings}
use Rattle.host_timeline.proofs.FoundLemmas.{parts_below}
use Rattle.host_timeline.proofs.lent.LentBookings.below.Goals as goal

-- keys rise along the list
pub returns-clause-parted : goal.returns-clause-parted
returns-clause-parted c =
    rw (← c.self.view_is) (IsPartitionPoint-from_clause (λ b. is_lt (key_cmp b.key c.args.key)) c.self.inside.bookings c.partition_point.result c.partition_point.ensures.partitioned
    (parts_below key_cmp_total (λ b. b.key) c.self.inside.bookings (subst IsAscendingBookings (sym c.self.view_is) c.requires) c.args.key) (λ a r f called. search rules))
