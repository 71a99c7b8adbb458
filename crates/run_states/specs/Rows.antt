-- The rows of a host, and the places that are reserved for more.
use Rattle.std.specs.Prelude.{◌≡◌, ℕ, ◌<◌, ◌≤◌, Bool, List, None, Option, Some, filter, length, slice_index_or}
use Rattle.std.specs.Ordering.{is_lt}
use Rattle.std.specs.List.Sorted.{IsPartitionPoint}
use Rattle.std.specs.declared.cmp.Ordering.TheVariants.{Less, Equal, Greater}
use Rattle.ps_time.specs.declared.key.RunKey.{RunKey}
use Rattle.ps_time.specs.Key.{key_cmp}
use Rattle.ps_time.specs.Sorted.{find_key, without_key, insert_key, change_key, IsAscending}
use Rattle.run_states.specs.declared.row.RunRow.{RunRow}

-- the rows, ascending by key, and how many more fit
pub record Rows : Type 0 where
  pub list : List RunRow
  pub room : ℕ

-- the row that has the key
abbrev pub find_row : List RunRow → RunKey → Option RunRow
find_row = find_key key_cmp (λ r. r.key)

-- the rows with one more, in its place
abbrev pub put_row : List RunRow → RunRow → List RunRow
put_row = insert_key key_cmp (λ r. r.key)

-- the rows without the one that has the key
abbrev pub lift_row : List RunRow → RunKey → List RunRow
lift_row = without_key key_cmp (λ r. r.key)

-- the rows with f of the one that has the key in its place
abbrev pub change_row : (RunRow → RunRow) → List RunRow → RunKey → List RunRow
change_row f = change_key key_cmp (λ r. r.key) f

-- each key is below those after it
abbrev pub IsAscendingRows : List RunRow → Type 0
IsAscendingRows = IsAscending key_cmp (λ r. r.key)

-- the row is above the key
abbrev pub is_above : RunKey → RunRow → Bool
is_above key r = is_lt (key_cmp key r.key)

-- the row is below the key
abbrev pub is_below : RunKey → RunRow → Bool
is_below key r = is_lt (key_cmp r.key key)

-- those above a key; all of them where there is none
abbrev pub rows_above : Option RunKey → List RunRow → List RunRow
rows_above None rows = rows
rows_above (Some key) rows = filter (is_above key) rows

-- the row at place i has the key
pub record IsPlaceOf (rows : List RunRow) (key : RunKey) (i : ℕ) : Type 0 where
  pub within : i < length rows
  pub same : (d : RunRow) → key_cmp (slice_index_or rows i d).key key ≡ Equal

-- a row with the key would go at place i
pub record IsGapFor (rows : List RunRow) (key : RunKey) (i : ℕ) : Type 0 where
  pub within : i ≤ length rows
  pub parted : IsPartitionPoint (λ r. key_cmp r.key key ≡ Less) (λ r. key_cmp r.key key ≡ Greater) rows i
