use Rattle.std.proofs.Common.{◌≡◌, ◌+◌, take, vec_capacity, vec_len}
use Rattle.ps_lists.proofs.sliding_moves.lengthen.Given as goal

-- what was there still is, with as many cells behind it as turns were taken
abbrev pub invariant-loop : goal.invariant-loop
invariant-loop g l = (take (vec_len l.initial.cells) l.cells.items ≡ l.initial.cells.items) × (vec_len l.cells ≡ vec_len l.initial.cells + l.counter) × (vec_capacity l.cells ≡ vec_capacity l.initial.cells)
