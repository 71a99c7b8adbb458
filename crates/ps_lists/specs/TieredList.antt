-- A list whose items stand in blocks.
use Rattle.std.specs.Prelude.{⊤, ◌≡◌, ◌+◌, ◌<◌, ◌≤◌, ◌++◌, [], ◌∷◌, List, ℕ, zero, suc, length}
use Rattle.ps_lists.specs.SlidingList.{SlidingList as Block}

-- the items, and how many fit, those that are there among them
pub record TieredList (X : Type 0) : Type 0 where
  pub list : List X
  pub places : ℕ

-- how many items a block has at most
abbrev pub most : ℕ
most = 2048

-- the items of the blocks
abbrev pub joined : {X : Type 0} → List (Block X) → List X
joined [] = []
joined (b ∷ bs) = b.list ++ joined bs

-- a block before others: it has places for all its items, and is full where they have any
pub record IsFilled {X : Type 0} (b : Block X) (bs : List (Block X)) : Type 0 where
  pub places : most ≤ b.places
  pub few : length b.list ≤ most
  pub full : length b.list < most → joined bs ≡ []

-- each block is full before the next one has an item
abbrev pub AreFilled : {X : Type 0} → List (Block X) → Type 0
AreFilled [] = ⊤
AreFilled (b ∷ bs) = IsFilled b bs × AreFilled bs

-- a block before others: it has places for all its items, and with one more it is full where they have any
pub record IsOpen {X : Type 0} (b : Block X) (bs : List (Block X)) : Type 0 where
  pub places : most ≤ b.places
  pub room : length b.list < most
  pub full : length b.list + 1 < most → joined bs ≡ []

-- the blocks before block k are full, it has room for one item more, and those behind it are filled
abbrev pub IsOpenAt : {X : Type 0} → ℕ → List (Block X) → Type 0
IsOpenAt k [] = ⊥
IsOpenAt zero (b ∷ bs) = IsOpen b bs × AreFilled bs
IsOpenAt (suc k) (b ∷ bs) = (most ≤ b.places) × (length b.list ≡ most) × IsOpenAt k bs
