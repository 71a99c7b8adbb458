-- The order of a list, said by the numbers of cells.
use Rattle.std.specs.Prelude.{◌≡◌, ◌<◌, ◌≤◌, ◌==◌, ◌-◌, ◌^◌, Bool, List, None, Option, Some, ℕ, false, length, slice_get}
use Rattle.std.specs.List.{count_by, filter_map, position_or_len}

-- the items in the cells of these numbers
abbrev pub picked : {X : Type 0} → List X → List ℕ → List X
picked cells order = filter_map (slice_get cells) order

-- whether there is an item, and it passes the test
abbrev pub passes_some : {X : Type 0} → (X → Bool) → Option X → Bool
passes_some p None = false
passes_some p (Some x) = p x

-- whether a number has a cell, and its item passes the test
abbrev pub passes_in : {X : Type 0} → (X → Bool) → List X → ℕ → Bool
passes_in p cells number = passes_some p (slice_get cells number)

-- how often a number stands in the list
abbrev pub times : ℕ → List ℕ → ℕ
times number order = count_by (λ n. n == number) order

-- the place of the number of the last of as many cells
abbrev pub last_place : List ℕ → ℕ
last_place order = position_or_len (λ n. n == length order - 1) order

-- the list names each of so many cells once, and nothing else
pub record IsOrderOf (count : ℕ) (order : List ℕ) : Type 0 where
  pub all : length order ≡ count
  pub few : count ≤ 2 ^ 32
  pub once : (number : ℕ) → number < count → times number order ≡ 1
  pub outside : (number : ℕ) → count ≤ number → times number order ≡ 0
