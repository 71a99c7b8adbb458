use Rattle.std.proofs.Common.{◌≡◌, drop}
use Rattle.plugin_tool.specs.Choice.{first_wanted}
use Rattle.plugin_tool.proofs.choice.first_wanted.Given as goal

-- what is left decides
abbrev pub invariant-loop-name : goal.invariant-loop-name
invariant-loop-name l = first_wanted l.lists l.wanted ≡ first_wanted l.lists (drop l.name-index l.wanted)
