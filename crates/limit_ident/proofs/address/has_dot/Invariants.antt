use Rattle.std.proofs.Common.{◌≡◌, ◌==◌, drop}
use Rattle.std.specs.List.{list_any}
use Rattle.limit_ident.proofs.address.has_dot.Given as goal

-- what is left decides
abbrev pub invariant-loop-byte : goal.invariant-loop-byte
invariant-loop-byte l = list_any (λ b. b == 46) l.bytes ≡ list_any (λ b. b == 46) (drop l.byte-index l.bytes)
