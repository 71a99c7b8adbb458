use Rattle.std.proofs.Common.{◌≡◌, drop}
use Rattle.ps_http.specs.Scan.{positions_after}
use Rattle.ps_http.proofs.lines.LinePosition.after_all.Given as goal

abbrev pub invariant-loop-byte : goal.invariant-loop-byte
invariant-loop-byte l = positions_after l.place (drop l.byte-index l.bytes) ≡ positions_after l.fn.self l.bytes
