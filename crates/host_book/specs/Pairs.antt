-- The pairs of runs and epochs, and the places that are reserved for more.
use Rattle.std.specs.Prelude.{◌≡◌, ◌<◌, ◌≤◌, List, length, slice_index_or, ℕ}
use Rattle.std.specs.List.Sorted.{IsPartitionPoint}
use Rattle.std.specs.declared.cmp.Ordering.TheVariants.{Less, Equal, Greater}
use Rattle.ps_time.specs.declared.key.RunKey.{RunKey}
use Rattle.ps_time.specs.Key.{key_cmp}
use Rattle.ps_time.specs.Sorted.{insert_key, without_key, IsAscending}

-- the pairs, ascending by key, and how many more fit
pub record Pairs : Type 0 where
  pub list : List (RunKey × ℕ)
  pub room : ℕ

-- the pairs with one more, in its place
abbrev pub with_pair : List (RunKey × ℕ) → (RunKey × ℕ) → List (RunKey × ℕ)
with_pair = insert_key key_cmp (λ p. p.0)

-- the pairs without the one that has the key
abbrev pub drop_pair : List (RunKey × ℕ) → RunKey → List (RunKey × ℕ)
drop_pair = without_key key_cmp (λ p. p.0)

-- each key is below those after it
abbrev pub IsAscendingPairs : List (RunKey × ℕ) → Type 0
IsAscendingPairs = IsAscending key_cmp (λ p. p.0)

-- the pair at place i has the key
pub record IsPlaceOf (pairs : List (RunKey × ℕ)) (key : RunKey) (i : ℕ) : Type 0 where
  pub within : i < length pairs
  pub same : (d : RunKey × ℕ) → key_cmp (slice_index_or pairs i d).0 key ≡ Equal

-- a pair with the key would go at place i
pub record IsGapFor (pairs : List (RunKey × ℕ)) (key : RunKey) (i : ℕ) : Type 0 where
  pub within : i ≤ length pairs
  pub parted : IsPartitionPoint (λ p. key_cmp p.0 key ≡ Less) (λ p. key_cmp p.0 key ≡ Greater) pairs i
