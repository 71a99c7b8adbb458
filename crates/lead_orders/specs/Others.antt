-- What a lead knows of the other participants of a run, place by place, and hears of them.
use Rattle.std.specs.Prelude.{◌&&◌, ◌+◌, ◌==◌, ◌||◌, ◌∷◌, Bool, List, [], false, true, ℕ}
use Rattle.run_states.specs.declared.why.Denial.{Denial}
use Rattle.run_states.specs.declared.why.Denial.TheVariants.{Closed}
use Rattle.run_states.specs.declared.answer.Other.{Other}

-- each of those from the place `at` on has accepted, but for the one at another place
abbrev pub accepted_beside : ℕ → ℕ → List Other → Bool
accepted_beside place at [] = true
accepted_beside place at (o ∷ os) = ((at == place) || o.accepted) && accepted_beside place (at + 1) os

-- the participant has closed its row of the run
abbrev pub is_closed_there : Denial → Bool
is_closed_there (Closed state) = true
is_closed_there _ = false
