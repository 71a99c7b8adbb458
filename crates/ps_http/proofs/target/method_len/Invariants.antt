use Rattle.std.proofs.Common.{◌≡◌, ◌+◌, drop}
use Rattle.std.specs.List.{prefix_len}
use Rattle.httparse.specs.Grammar.{is_token_byte}
use Rattle.ps_http.proofs.target.method_len.Given as goal

abbrev pub invariant-loop-i : goal.invariant-loop-i
invariant-loop-i l = l.i + prefix_len is_token_byte (drop l.i l.line) ≡ prefix_len is_token_byte l.line
