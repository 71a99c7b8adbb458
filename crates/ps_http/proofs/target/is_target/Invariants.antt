use Rattle.std.proofs.Common.{◌≡◌, drop}
use Rattle.std.specs.List.{list_all}
use Rattle.httparse.specs.Grammar.{is_uri_byte}
use Rattle.ps_http.proofs.target.is_target.Given as goal

abbrev pub invariant-loop-byte : goal.invariant-loop-byte
invariant-loop-byte l = list_all is_uri_byte (drop l.byte-index l.bytes) ≡ list_all is_uri_byte l.bytes
