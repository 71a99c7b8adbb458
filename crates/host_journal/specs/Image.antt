-- What an image holds while it is written.
use Rattle.std.specs.Prelude.{ℕ, List}

-- the bytes of the snapshot so far, and the room of the buffer that they lie in
pub record ImageState : Type 0 where
  pub bytes : List ℕ
  pub room : ℕ
