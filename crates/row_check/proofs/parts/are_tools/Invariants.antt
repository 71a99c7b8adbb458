use Rattle.std.specs.List.{list_all}
use Rattle.std.proofs.Common.{◌≡◌, drop, is_some}
use Rattle.plugin_tool.specs.Choice.{tool_of_text}
use Rattle.row_check.proofs.parts.are_tools.Given as goal

-- what is left decides
abbrev pub invariant-loop-name : goal.invariant-loop-name
invariant-loop-name l = list_all (λ name. is_some (tool_of_text name)) (drop l.name-index l.names) ≡ list_all (λ name. is_some (tool_of_text name)) l.names
