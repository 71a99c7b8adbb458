-- A reader, and what it has left to read.
use Rattle.std.specs.Prelude.{ℕ, List, Bool}

-- its source, the bytes that it has read from it and given to no message, and whether it has answered a fault
pub record ReaderState (S : Type 0) : Type 0 where
  pub source : S
  pub held : List ℕ
  pub refused : Bool
