-- What a source gave, where it tells its bytes.
use Rattle.std.specs.Prelude.{◌≡◌, ℕ, List, take, Option, IfSome}

-- these bytes are all that it held, or the first so many of them
abbrev pub GaveFront : ℕ → Option (List ℕ) → List ℕ → Type 0
GaveFront most held bytes = IfSome held (λ all. bytes ≡ take most all)
