use Rattle.std.proofs.Common.{◌≡◌, map, take}
use Rattle.serde_json.specs.View.{view}
use Rattle.task_spec.specs.WriteTask.{entry_data}
use Rattle.task_spec.proofs.write_task.write_entries.Given as goal

-- the entries so far
abbrev pub invariant-loop-entry : goal.invariant-loop-entry
invariant-loop-entry l = map view l.values.items ≡ map entry_data (take l.entry-index l.entries)
