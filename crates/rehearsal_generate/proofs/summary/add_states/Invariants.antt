use Rattle.std.proofs.Common.{◌≡◌, ◌++◌, All, map}
use Rattle.run_states.specs.Life.{settled_rows, state_of, HasMoments}
use Rattle.rehearsal_generate.proofs.summary.add_states.Given as goal

-- those so far were added, and those of the rows that are left come
abbrev pub invariant-loop-row : goal.invariant-loop-row
invariant-loop-row l =
    All HasMoments l.row-iterator
    × (l.fn.states.items ++ map (λ r. state_of r l.moment) (settled_rows l.moment l.fn.rows) ≡ l.states.items ++ map (λ r. state_of r l.moment) (settled_rows l.moment l.row-iterator))
