use Rattle.std.proofs.Common.{◌≡◌, map}
use Rattle.serde_json.specs.View.{view}
use Rattle.plugin_tool.specs.ResultText.{ticks}
use Rattle.plugin_tool.proofs.result.write_ticks.Given as goal

-- the ticks so far
abbrev pub invariant-loop-passed : goal.invariant-loop-passed
invariant-loop-passed l = map view l.values.items ≡ ticks l.fn.started l.fn.interval l.passed
