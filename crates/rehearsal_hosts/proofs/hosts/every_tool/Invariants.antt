use Rattle.std.proofs.Common.{◌≡◌, ◌++◌, drop, map}
use Rattle.plugin_tool.specs.Tool.{tool_text}
use Rattle.rehearsal_model.specs.Hosts.{every_tool}
use Rattle.rehearsal_hosts.proofs.hosts.every_tool.Given as goal

-- those of the tools that are left are still to come
abbrev pub invariant-loop-tool : goal.invariant-loop-tool
invariant-loop-tool l = every_tool ≡ l.names ++ map tool_text (drop l.tool-index l.tool-items)
