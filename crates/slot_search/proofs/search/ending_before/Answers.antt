use Rattle.std.proofs.Common.{ltb, rules}
use Rattle.std.proofs.lemmas.List.Sorted.{IsPartitionPoint-from_clause, IsPartitionedBy-ltb}
use Rattle.slot_search.proofs.search.ending_before.Goals as goal

-- ends rise along the windows
pub returns-clause-parted : goal.returns-clause-parted
returns-clause-parted c =
    IsPartitionPoint-from_clause (λ w. ltb w.last c.args.moment) c.args.windows.now c.partition_point.result c.partition_point.ensures.partitioned
    (IsPartitionedBy-ltb (λ w. w.last) c.args.windows.now c.args.moment c.requires.lasts) (λ a r f called. search rules)
