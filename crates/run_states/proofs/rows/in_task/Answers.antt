use Rattle.std.proofs.Common.{rules}
use Rattle.std.proofs.lemmas.List.Sorted.{IsPartitionPoint-from_clause}
use Rattle.run_states.specs.TaskRows.{is_of_task}
use Rattle.run_states.proofs.TaskLemmas.{of_parted}
use Rattle.run_states.proofs.rows.in_task.Goals as goal

-- so does this one, behind the rows before
pub returns-clause-parted : goal.returns-clause-parted
returns-clause-parted c =
    IsPartitionPoint-from_clause (is_of_task c.args.lead c.args.serial) c.args.rows.now c.partition_point.result c.partition_point.ensures.partitioned
    (of_parted c.args.lead c.args.serial c.args.rows.now c.requires.ascending c.requires.none_before) (λ a r f called. search rules)
