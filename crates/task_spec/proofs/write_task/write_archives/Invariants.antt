use Rattle.std.proofs.Common.{◌≡◌, map, take}
use Rattle.serde_json.specs.View.{view}
use Rattle.task_spec.specs.WriteTask.{archive_data}
use Rattle.task_spec.proofs.write_task.write_archives.Given as goal

-- the archives so far
abbrev pub invariant-loop-archive : goal.invariant-loop-archive
invariant-loop-archive l = map view l.values.items ≡ map archive_data (take l.archive-index l.archives)
