use Rattle.std.proofs.Common.{rules}
use Rattle.std.proofs.lemmas.List.Sorted.{IsPartitionPoint-from_clause}
use Rattle.run_states.specs.TaskRows.{is_before_task}
use Rattle.run_states.proofs.TaskLemmas.{before_parted}
use Rattle.run_states.proofs.rows.before_task.Goals as goal

-- the test goes along with the order of keys
pub returns-clause-parted : goal.returns-clause-parted
returns-clause-parted c =
    IsPartitionPoint-from_clause (is_before_task c.args.lead c.args.serial) c.args.rows.now c.partition_point.result c.partition_point.ensures.partitioned
    (before_parted c.args.lead c.args.serial c.args.rows.now c.requires) (λ a r f called. search rules)
