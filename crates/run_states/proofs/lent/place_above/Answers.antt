use Rattle.std.proofs.Common.{not, rules}
use Rattle.std.proofs.lemmas.List.Sorted.{IsPartitionPoint-from_clause}
use Rattle.run_states.specs.Rows.{is_above}
use Rattle.run_states.proofs.TaskLemmas.{above_parted}
use Rattle.run_states.proofs.lent.place_above.Goals as goal

-- the test goes along with the order of keys
pub returns-clause-parted : goal.returns-clause-parted
returns-clause-parted c =
    IsPartitionPoint-from_clause (λ r. not (is_above c.args.key r)) c.args.rows.now c.partition_point.result c.partition_point.ensures.partitioned
    (above_parted c.args.key c.args.rows.now c.requires) (λ a r f called. search rules)
