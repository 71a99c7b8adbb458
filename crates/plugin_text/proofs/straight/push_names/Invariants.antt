use Rattle.std.proofs.Common.{◌≡◌, drop, string_bytes}
use Rattle.plugin_text.specs.Straight.{with_names}
use Rattle.plugin_text.proofs.straight.push_names.Given as goal

-- what is left is still to be written
abbrev pub invariant-loop-name : goal.invariant-loop-name
invariant-loop-name l = with_names (string_bytes l.fn.out) l.names ≡ with_names (string_bytes l.out) (drop l.name-index l.names)
