use Rattle.std.proofs.Common.{◌≡◌, drop}
use Rattle.plugin_core.specs.ReadTest.{all_differ}
use Rattle.plugin_core.proofs.read_test.all_differ.Given as goal

-- what is left decides
abbrev pub invariant-loop-index : goal.invariant-loop-index
invariant-loop-index l = all_differ l.names ≡ all_differ (drop l.index l.names)
