use Rattle.std.proofs.Common.{arith, ◌∙◌, codes}
use Rattle.std.proofs.lemmas.Grind.{common_steps}
use Rattle.serde_json.specs.View.{view}
use Rattle.ps_json.proofs.EachLemmas.{read_each-begins, read_after-item}
use Rattle.task_spec.specs.ReadTask.{tool_name_in}
use Rattle.task_spec.proofs.read_task.read_names.Goals as goal

pub loop-value-init : goal.loop-value-init
loop-value-init c = record {
  decides = read_each-begins (tool_name_in (codes "tools")) view _ _ _ c.new-tools.ensures c.into_iter-value-iterator.ensures.into_iter_gives.0;
  known = grind (arith, common_steps);
  count = grind (arith, common_steps);
}

pub loop-value-preserved : goal.loop-value-preserved
loop-value-preserved c = record {
  decides = c.loop-value.invariant.decides ∙ read_after-item (tool_name_in (codes "tools")) view _ _ _ _ _ _ c.in-Some.ensures.steps.0 c.in_ok-read_tool_name.ensures.value c.in_ok-push.ensures.ok;
  known = grind (arith, common_steps);
  count = grind (arith, common_steps);
}
