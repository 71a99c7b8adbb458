use Rattle.std.proofs.Common.{leb, arith, rules}
use Rattle.std.proofs.lemmas.Bool.Decides.{nat_tests}
use Rattle.std.proofs.lemmas.List.Sorted.{IsPartitionPoint-from_clause, IsPartitionedBy-leb}
use Rattle.host_timeline.proofs.RangeLemmas.{starts_rise}
use Rattle.host_timeline.proofs.ranges.starting_by.Goals as goal

-- starts rise along the ranges
pub returns-clause-parted : goal.returns-clause-parted
returns-clause-parted c =
    let parted = IsPartitionPoint-from_clause (λ r. leb r.start c.args.moment) c.args.ranges.now c.partition_point.result c.partition_point.ensures.partitioned
    (IsPartitionedBy-leb (λ r. r.start) c.args.ranges.now c.args.moment (starts_rise c.args.ranges.now c.requires)) (λ a r f called. search rules) in
    (λ k d low high. let is = parted.0 k d low high in grind (arith, nat_tests), λ k d low high. let is = parted.1 k d low high in grind (arith, nat_tests))
