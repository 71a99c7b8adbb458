use Rattle.std.proofs.Common.{arith, ◌∙◌}
use Rattle.std.proofs.lemmas.Grind.{common_steps}
use Rattle.serde_json.specs.View.{view}
use Rattle.ps_json.proofs.EachLemmas.{read_each-begins, read_after-item}
use Rattle.plugin_core.specs.ReadTest.{host_in}
use Rattle.plugin_core.proofs.read_test.read_names.Goals as goal

pub loop-value-init : goal.loop-value-init
loop-value-init c = record {
  decides = read_each-begins (host_in c.args.name.now) view _ _ _ c.new-names.ensures c.into_iter-value-iterator.ensures.into_iter_gives.0;
  names = grind (arith, common_steps);
}

pub loop-value-preserved : goal.loop-value-preserved
loop-value-preserved c = record {
  decides = c.loop-value.invariant.decides ∙ read_after-item (host_in c.args.name.now) view _ _ _ _ _ _ c.in-Some.ensures.steps.0 c.in_ok-read_host.ensures.value c.in_ok-push.ensures.ok;
  names = grind (arith, common_steps);
}
