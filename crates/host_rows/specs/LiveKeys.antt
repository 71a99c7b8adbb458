-- Keys in ascending order, and how many places there are for them.
use Rattle.std.specs.Prelude.{◌≡◌, ◌<◌, ◌≤◌, Bool, List, Option, false, length, slice_index_or, true, ℕ}
use Rattle.std.specs.List.Sorted.{IsPartitionPoint}
use Rattle.std.specs.declared.cmp.Ordering.TheVariants.{Less, Equal, Greater}
use Rattle.ps_time.specs.declared.key.RunKey.{RunKey}
use Rattle.ps_time.specs.Key.{key_cmp}
use Rattle.ps_time.specs.Sorted.{find_key, insert_key, without_key, IsAscending}

-- the keys, ascending, and how many fit, those that are there among them
pub record LiveKeys : Type 0 where
  pub list : List RunKey
  pub places : ℕ

-- the key that is equal to this one
abbrev pub find_own : List RunKey → RunKey → Option RunKey
find_own = find_key key_cmp (λ k. k)

-- the keys with one more, in its place
abbrev pub with_key : List RunKey → RunKey → List RunKey
with_key = insert_key key_cmp (λ k. k)

-- the keys without this one
abbrev pub drop_key : List RunKey → RunKey → List RunKey
drop_key = without_key key_cmp (λ k. k)

-- the keys, with this one among them exactly where the test holds
abbrev pub marked : Bool → List RunKey → RunKey → List RunKey
marked true ks k = with_key (drop_key ks k) k
marked false ks k = drop_key ks k

-- each key is below those after it
abbrev pub IsAscendingKeys : List RunKey → Type 0
IsAscendingKeys = IsAscending key_cmp (λ k. k)

-- the key stands at place i
pub record IsPlaceOf (ks : List RunKey) (key : RunKey) (i : ℕ) : Type 0 where
  pub within : i < length ks
  pub same : (d : RunKey) → key_cmp (slice_index_or ks i d) key ≡ Equal

-- the key would go at place i
pub record IsGapFor (ks : List RunKey) (key : RunKey) (i : ℕ) : Type 0 where
  pub within : i ≤ length ks
  pub parted : IsPartitionPoint (λ k. key_cmp k key ≡ Less) (λ k. key_cmp k key ≡ Greater) ks i
