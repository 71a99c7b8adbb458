use Rattle.std.proofs.Common.{◌≡◌, drop}
use Rattle.limit_ident.specs.Identifier.{contains_text}
use Rattle.limit_ident.proofs.identifier.contains.Given as goal

-- what is left decides
abbrev pub invariant-loop-start : goal.invariant-loop-start
invariant-loop-start l = contains_text l.part l.text ≡ contains_text l.part (drop l.start l.text)
