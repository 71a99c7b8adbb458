use Rattle.std.specs.Prelude.{◌↔◌}
use Rattle.std.proofs.Common.{◌≤◌, All, drop}
use Rattle.book_check.proofs.pairs.are_known.Given as goal

-- what is left decides
abbrev pub invariant-loop-pair : goal.invariant-loop-pair
invariant-loop-pair l = All (λ p. p.1 ≤ l.count) (drop l.pair-index l.pairs) ↔ All (λ p. p.1 ≤ l.count) l.pairs
