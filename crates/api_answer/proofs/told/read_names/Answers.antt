use Rattle.std.proofs.Common.{◌∙◌, codes}
use Rattle.serde_json.specs.View.{view}
use Rattle.ps_json.proofs.EachLemmas.{read_each-begins, read_after-item}
use Rattle.api_body.specs.Bodies.{text_at}
use Rattle.api_answer.proofs.told.read_names.Goals as goal

pub loop-value-init : goal.loop-value-init
loop-value-init c = read_each-begins (text_at (codes "tools")) view _ _ _ c.new-names.ensures c.into_iter-value-iterator.ensures.into_iter_gives.0

pub loop-value-preserved : goal.loop-value-preserved
loop-value-preserved c = c.loop-value.invariant ∙ read_after-item (text_at (codes "tools")) view _ _ _ _ _ _ c.in-Some.ensures.steps.0 c.in_ok-read_name.ensures.value c.in_ok-push.ensures.ok
