-- A list whose items stand in cells of their own.
use Rattle.std.specs.Prelude.{List, ℕ}

-- the items, how many fit, those that are there among them, and the place in the list of the item in the last cell
pub record PlacedList (X : Type 0) : Type 0 where
  pub list : List X
  pub places : ℕ
  pub last : ℕ
