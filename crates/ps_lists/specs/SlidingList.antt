-- A list in places that are reserved.
use Rattle.std.specs.Prelude.{List, ℕ}

-- the items, and how many fit, those that are there among them
pub record SlidingList (X : Type 0) : Type 0 where
  pub list : List X
  pub places : ℕ
