use Rattle.serde_json.specs.View.{view}
use Rattle.plugin_tool.proofs.ResultLemmas.{ticks_more}
use Rattle.plugin_tool.proofs.result.write_ticks.Goals as goal

pub loop-passed-preserved : goal.loop-passed-preserved
loop-passed-preserved c =
    rw c.in_ok-push.ensures.items
    (ticks_more view c.loop-passed.values.items c.in_ok-write_tick.field-0 c.args.started c.args.interval c.loop-passed.passed c.loop-passed.invariant c.in_ok-write_tick.ensures)
