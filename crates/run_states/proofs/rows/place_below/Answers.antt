use Rattle.std.proofs.Common.{rules}
use Rattle.std.proofs.lemmas.List.Sorted.{IsPartitionPoint-from_clause}
use Rattle.run_states.specs.Rows.{is_below}
use Rattle.run_states.proofs.Place.{below_parted}
use Rattle.run_states.proofs.rows.place_below.Goals as goal

-- the test goes along with the order of keys
pub returns-clause-parted : goal.returns-clause-parted
returns-clause-parted c =
    IsPartitionPoint-from_clause (is_below c.args.key) c.args.rows.now c.partition_point.result c.partition_point.ensures.partitioned
    (below_parted c.args.rows.now c.requires c.args.key) (λ a r f called. search rules)
