-- What a walk over records answers.
use Rattle.std.specs.Prelude.{◌≡◌, ◌≤◌, ◌<◌, ℕ, List, ◌++◌, Result, Ok, Err}
use Rattle.host_journal.specs.Format.{record_bytes}

-- the records were added to the list, and the answer is what they take; or it is the place of an open gate byte without a whole record
abbrev pub Walked : List (List ℕ) → List (List ℕ) → Result ℕ ℕ → Result (List (List ℕ)) ℕ → Type 0
Walked old new (Ok bytes) (Ok records) = (new ≡ old ++ records) × (bytes ≡ record_bytes records)
Walked old new (Err at) (Err place) = at ≡ place
Walked old new (Ok bytes) (Err place) = ⊥
Walked old new (Err at) (Ok records) = ⊥

-- what records take is less than there is, since a gate byte lies behind them
abbrev pub IsWithin : Result ℕ ℕ → ℕ → Type 0
IsWithin (Ok n) most = n < most
IsWithin (Err n) most = n ≤ most
