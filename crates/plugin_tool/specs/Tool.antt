-- The names of tools.
use Rattle.std.specs.Prelude.{ℕ, List, codes}
use Rattle.plugin_tool.specs.declared.tool.Tool.{Tool}
use Rattle.plugin_tool.specs.declared.tool.Tool.TheVariants.{Sleep, Snooze, Sleepbgm, Simplestreamer}

abbrev pub tool_text : Tool → List ℕ
tool_text Sleep = codes "sleep"
tool_text Snooze = codes "snooze"
tool_text Sleepbgm = codes "sleepbgm"
tool_text Simplestreamer = codes "simplestreamer"
