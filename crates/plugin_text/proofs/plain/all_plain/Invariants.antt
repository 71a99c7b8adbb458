use Rattle.std.proofs.Common.{◌≡◌, drop}
use Rattle.std.specs.List.{list_all}
use Rattle.plugin_text.specs.Plain.{is_plain_byte}
use Rattle.plugin_text.proofs.plain.all_plain.Given as goal

-- what is left decides
abbrev pub invariant-loop-b : goal.invariant-loop-b
invariant-loop-b l = list_all is_plain_byte l.bytes ≡ list_all is_plain_byte (drop l.b-index l.bytes)
