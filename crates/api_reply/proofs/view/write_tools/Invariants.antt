use Rattle.std.proofs.Common.{◌≡◌, filter, map, take}
use Rattle.plugin_core.specs.Participants.{is_named}
use Rattle.plugin_tool.specs.Tool.{tool_text}
use Rattle.api_reply.proofs.view.write_tools.Given as goal

-- those so far that the host has
abbrev pub invariant-loop-tool : goal.invariant-loop-tool
invariant-loop-tool l = map (λ name. name.now) l.names.items ≡ filter (λ name. is_named name l.installed) (map tool_text (take l.tool-index l.tool-items))
