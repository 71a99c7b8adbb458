use Rattle.std.proofs.Common.{◌≡◌, drop}
use Rattle.plugin_tool.specs.Choice.{in_all}
use Rattle.plugin_tool.proofs.choice.is_in_all.Given as goal

-- what is left decides
abbrev pub invariant-loop-list : goal.invariant-loop-list
invariant-loop-list l = in_all l.lists l.fn.tool ≡ in_all (drop l.list-index l.lists) l.fn.tool
