use Rattle.std.proofs.Common.{◌≡◌, ◌++◌, drop}
use Rattle.std.specs.List.{filter}
use Rattle.plugin_tool.specs.Choice.{is_tool_for}
use Rattle.plugin_tool.proofs.choice.tools_for.Given as goal

-- the tools so far, and those of what is left
abbrev pub invariant-loop-name : goal.invariant-loop-name
invariant-loop-name l = filter (is_tool_for l.kind) l.installed ≡ l.tools ++ filter (is_tool_for l.kind) (drop l.name-index l.installed)
