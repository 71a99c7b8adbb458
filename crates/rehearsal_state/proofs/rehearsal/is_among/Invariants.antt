use Rattle.std.proofs.Common.{◌≡◌, ◌==◌, drop}
use Rattle.std.specs.List.{list_any}
use Rattle.rehearsal_state.proofs.rehearsal.is_among.Given as goal

-- what is left decides
abbrev pub invariant-loop-other : goal.invariant-loop-other
invariant-loop-other l = list_any (λ n. n == l.number) (drop l.other-index l.numbers) ≡ list_any (λ n. n == l.number) l.numbers
