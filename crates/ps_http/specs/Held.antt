-- What a read from a source adds to the bytes that are held.
use Rattle.std.specs.Prelude.{◌≡◌, ◌≤◌, ◌+◌, ℕ, List, ◌++◌, length, take, drop, Option}
use Rattle.std.specs.Io.KnownBytes.{Consumes, IsAtEnd}

-- so many bytes came from the source, and none only at its end
pub record Came (count : ℕ) (held now : List ℕ) (left rest : Option (List ℕ)) : Type 0 where
  pub bytes : List ℕ
  pub many : length bytes ≡ count
  pub consumed : Consumes left rest bytes
  pub added : now ≡ held ++ bytes
  pub ended : count ≡ 0 → IsAtEnd rest

-- so many bytes came to the place from on, before to, and none only at the end
pub record CameAt (from to count : ℕ) (bytes : List ℕ) (left rest : Option (List ℕ)) : Type 0 where
  pub within : from + count ≤ to
  pub consumed : Consumes left rest (take count (drop from bytes))
  pub ended : count ≡ 0 → IsAtEnd rest
