use Rattle.std.proofs.Common.{◌≡◌, drop}
use Rattle.std.specs.List.{list_all}
use Rattle.httparse.specs.Grammar.{is_uri_byte}
use Rattle.rehearsal_lines.proofs.requested.is_target.Given as goal

-- what is left decides
abbrev pub invariant-loop-byte : goal.invariant-loop-byte
invariant-loop-byte l = list_all is_uri_byte (drop l.byte-index l.bytes) ≡ list_all is_uri_byte l.bytes
