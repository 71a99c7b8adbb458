use Rattle.std.proofs.Common.{◌≡◌, ◌+◌, true, length, map, codes}
use Rattle.std.specs.List.{list_all}
use Rattle.std.specs.Vec.Iter.{into_iter_items}
use Rattle.serde_json.specs.View.{view}
use Rattle.ps_json.specs.Each.{read_each, read_after}
use Rattle.task_spec.specs.ReadTask.{is_tool, tool_name_in}
use Rattle.task_spec.proofs.read_task.read_names.Given as goal

-- what is left decides
abbrev pub invariant-loop-value : goal.invariant-loop-value
invariant-loop-value l = record {
  decides : read_each (tool_name_in (codes "tools")) (map view l.fn.values.items) ≡ read_after (tool_name_in (codes "tools")) l.tools (map view (into_iter_items l.value-iterator));
  known : list_all is_tool l.tools ≡ true;
  count : length l.tools + length (into_iter_items l.value-iterator) ≡ length l.fn.values.items;
}
