use Rattle.std.proofs.Common.{ltb, rules}
use Rattle.std.proofs.lemmas.List.Sorted.{IsPartitionPoint-from_clause, IsPartitionedBy-ltb}
use Rattle.host_timeline.proofs.RangeLemmas.{ends_rise}
use Rattle.host_timeline.proofs.ranges.ending_before.Goals as goal

-- ends rise along the ranges
pub returns-clause-parted : goal.returns-clause-parted
returns-clause-parted c =
    IsPartitionPoint-from_clause (λ r. ltb r.end c.args.moment) c.args.ranges.now c.partition_point.result c.partition_point.ensures.partitioned
    (IsPartitionedBy-ltb (λ r. r.end) c.args.ranges.now c.args.moment (ends_rise c.args.ranges.now c.requires)) (λ a r f called. search rules)
