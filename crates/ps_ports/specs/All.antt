-- What came from a source since it held old, up to now, and what went to a sink, where they tell their bytes.
use Rattle.std.specs.Prelude.{◌≡◌, ◌≤◌, ◌<◌, ℕ, List, [], length, take, Option, Some, None, IfSome, ⊤}
use Rattle.std.specs.Io.KnownBytes.{Consumes, Appends}

-- these bytes are all that the source held, and none is left
abbrev pub GaveAll : Option (List ℕ) → Option (List ℕ) → List ℕ → Type 0
GaveAll None now bytes = ⊤
GaveAll (Some held) now bytes = (bytes ≡ held) × (now ≡ Some [])

-- more than so many bytes came
abbrev pub GaveMoreThan : ℕ → Option (List ℕ) → Option (List ℕ) → Type 0
GaveMoreThan most old now = (bytes : List ℕ) × Consumes old now bytes × (most < length bytes)

-- so many bytes came, or fewer
abbrev pub GaveAtMost : ℕ → Option (List ℕ) → Option (List ℕ) → Type 0
GaveAtMost most old now = (bytes : List ℕ) × Consumes old now bytes × (length bytes ≤ most)

-- the source held more than so many bytes
abbrev pub HeldMoreThan : ℕ → Option (List ℕ) → Type 0
HeldMoreThan most old = IfSome old (λ held. most < length held)

-- the first n bytes of the piece went out, and the piece has more than n
abbrev pub WrotePrefix : Option (List ℕ) → Option (List ℕ) → List ℕ → Type 0
WrotePrefix old now piece = (n : ℕ) × (n < length piece) × Appends old now (take n piece)
