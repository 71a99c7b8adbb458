-- What a reader holds once it has read as much of a head as it needs.
use Rattle.std.specs.Prelude.{◌≡◌, ◌≤◌, ◌<◌, ◌⊎◌, ℕ, true, false, List, ◌++◌, length, take, Option}
use Rattle.std.specs.Io.KnownBytes.{Consumes, IsAtEnd}
use Rattle.ps_http.specs.Lines.{has_head_end}

-- bytes came from the source, and are held behind the others
pub record Added (old held : List ℕ) (left rest : Option (List ℕ)) : Type 0 where
  pub came : List ℕ
  pub consumed : Consumes left rest came
  pub added : held ≡ old ++ came

-- no more of a head is needed: it has its end or all the bytes that it may have, or the input has ended
abbrev pub IsEnough : ℕ → List ℕ → Option (List ℕ) → Type 0
IsEnough most held rest = (has_head_end (take most held) ≡ true) ⊎ ((most ≤ length held) ⊎ IsAtEnd rest)

-- nothing came, or more of a head was needed, and came within its limit
abbrev pub IsWanted : ℕ → List ℕ → List ℕ → Type 0
IsWanted most old held = (held ≡ old) ⊎ ((length old < most) × (has_head_end old ≡ false) × (length held ≤ most))

abbrev pub Collected : ℕ → List ℕ → List ℕ → Option (List ℕ) → Option (List ℕ) → Type 0
Collected most old held left rest = Added old held left rest × IsEnough most held rest × IsWanted most old held

-- more of a head was needed
abbrev pub Interrupted : ℕ → List ℕ → List ℕ → Option (List ℕ) → Option (List ℕ) → Type 0
Interrupted most old held left rest = Added old held left rest × (length held < most) × (has_head_end held ≡ false)
