use Rattle.std.proofs.Common.{◌≡◌, drop}
use Rattle.plugin_core.specs.Participants.{is_named}
use Rattle.plugin_core.proofs.participants.is_named.Given as goal

-- what is left decides
abbrev pub invariant-loop-other : goal.invariant-loop-other
invariant-loop-other l = is_named l.name l.names ≡ is_named l.name (drop l.other-index l.names)
