use Rattle.std.proofs.Common.{◌≡◌, drop}
use Rattle.std.specs.List.{list_all}
use Rattle.task_spec.specs.ReadTask.{is_tool}
use Rattle.task_spec.proofs.read_task.all_tools.Given as goal

-- those so far
abbrev pub invariant-loop-name : goal.invariant-loop-name
invariant-loop-name l = list_all is_tool (drop l.name-index l.names) ≡ list_all is_tool l.names
