-- The changes of a step so far, and what it may still make.
use Rattle.std.specs.Prelude.{List, ℕ}
use Rattle.host_model.specs.declared.change.Change.{Change}

pub record Log : Type 0 where
  -- in order
  pub changes : List Change
  -- how many more may be made
  pub places : ℕ
  -- how many bytes they may take
  pub left : ℕ
  -- for how many more there is memory
  pub room : ℕ
