use Rattle.std.proofs.Common.{arith, ◌∙◌}
use Rattle.std.proofs.lemmas.Grind.{common_steps}
use Rattle.serde_json.specs.View.{view}
use Rattle.ps_json.proofs.EachLemmas.{read_each-begins, read_after-item}
use Rattle.api_answer.specs.Told.{window_in}
use Rattle.api_answer.proofs.told.read_windows.Goals as goal

pub loop-value-init : goal.loop-value-init
loop-value-init c = record {
  decides = read_each-begins (window_in c.args.name.now) view _ _ _ c.new-windows.ensures c.into_iter-value-iterator.ensures.into_iter_gives.0;
  bounds = grind (arith, common_steps);
  count = grind (arith, common_steps);
}

pub loop-value-preserved : goal.loop-value-preserved
loop-value-preserved c = record {
  decides = c.loop-value.invariant.decides ∙ read_after-item (window_in c.args.name.now) view _ _ _ _ _ _ c.in-Some.ensures.steps.0 c.in_ok-read_window.ensures.value c.in_ok-push.ensures.ok;
  bounds = grind (arith, common_steps);
  count = grind (arith, common_steps);
}
