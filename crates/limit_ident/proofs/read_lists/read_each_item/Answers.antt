use Rattle.std.proofs.Common.{◌∙◌}
use Rattle.serde_json.specs.View.{view}
use Rattle.ps_json.proofs.EachLemmas.{read_each-begins, read_after-item}
use Rattle.limit_ident.proofs.read_lists.read_each_item.Goals as goal

pub loop-value-init : goal.loop-value-init
loop-value-init g c = read_each-begins (g.R.ReadItem.item c.args.reader.now) view _ _ _ c.new-items.ensures c.into_iter-value-iterator.ensures.into_iter_gives.0

pub loop-value-preserved : goal.loop-value-preserved
loop-value-preserved g c = c.loop-value.invariant ∙ read_after-item (g.R.ReadItem.item c.args.reader.now) view _ _ _ _ _ _ c.in-Some.ensures.steps.0 c.in_ok-read_item.ensures c.in_ok-push.ensures.ok
