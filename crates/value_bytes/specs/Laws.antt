-- Laws of values as bytes: what is read is written so, and what is written so is read again, whatever follows it.
use Rattle.std.specs.Prelude.{◌++◌, ◌<◌, ◌≡◌, List, Option, Some, get_or, ℕ}
use Rattle.value_bytes.specs.Codec.{Codec}

abbrev pub AreBytes : List ℕ → Type 0
AreBytes bytes = (i : ℕ) → get_or bytes i 0 < 256

-- the bytes are those of a value, and behind it the rest
pub record Begins {A : Type 0} (code : A → List ℕ) (bytes : List ℕ) (x : A) (rest : List ℕ) : Type 0 where
  pub parts : bytes ≡ code x ++ rest
  pub are_bytes : AreBytes rest

-- what fits is read again, whatever follows it
abbrev pub ReadAgain : {A : Type 0} → (A → Type 0) → (A → List ℕ) → (List ℕ → Option (A × List ℕ)) → Type 0
ReadAgain {A} Fits code read = (x : A) (rest : List ℕ) → Fits x → read (code x ++ rest) ≡ Some (x, rest)

-- the bytes begin with those of what is read
abbrev pub ReadsCodes : {A : Type 0} → (A → List ℕ) → (List ℕ → Option (A × List ℕ)) → Type 0
ReadsCodes {A} code read = (bytes : List ℕ) (x : A) (rest : List ℕ) → AreBytes bytes → read bytes ≡ Some (x, rest) → Begins code bytes x rest

-- both laws
pub record IsCodec {A : Type 0} (c : Codec A) : Type 0 where
  pub again : ReadAgain c.Fits c.code c.read
  pub reads : ReadsCodes c.code c.read
