-- Records of results, and lists of them by key.
use Rattle.std.specs.Prelude.{◌≡◌, ◌≤◌, ℕ, Bool, true, false, List, take, filter, Option, Some, None, Result, Ok, Err}
use Rattle.std.specs.Ordering.{is_lt}
use Rattle.serde_json.specs.Data.{Data}
use Rattle.ps_time.specs.Key.{key_cmp}
use Rattle.ps_time.specs.Numbers.{greatest_moment}
use Rattle.ps_time.specs.Sorted.{find_key, IsAscending}
use Rattle.ps_time.specs.declared.key.RunKey.{RunKey}
use Rattle.ps_json.specs.Tree.{tree_of}
use Rattle.ps_json.specs.declared.fault.JsonFault.{JsonFault}
use Rattle.archive_retry.specs.Merge.{is_good}
use Rattle.result_table.specs.Upsert.{upsert}
use Rattle.result_table.specs.declared.record.Record.{Record}

-- the body reads as a JSON object whose member `succeeded` is true
unfoldable pub says_good : List ℕ → Bool
says_good body = of_tree (tree_of body)
  where
    of_tree : Result Data JsonFault → Bool
    of_tree (Ok tree) = is_good tree
    of_tree (Err fault) = false

-- the record of a key that had none
abbrev pub first_record : RunKey → ℕ → List ℕ → Record
first_record key moment body = record { key = key; since = moment; latest = moment; good = says_good body; body = body }

-- the record, with a later result in the place of its own
abbrev pub renewed : ℕ → List ℕ → Record → Record
renewed moment body r = record { key = r.key; since = r.since; latest = moment; good = says_good body; body = body }

-- the table after a result came: a new key gets a record, and one that is there keeps its `since`
abbrev pub put_record : List Record → RunKey → ℕ → List ℕ → List Record
put_record table key moment body = upsert key_cmp (λ r. r.key) key (first_record key moment body) (renewed moment body) table

-- the record of the key
abbrev pub find_record : List Record → RunKey → Option Record
find_record = find_key key_cmp (λ r. r.key)

-- the records above a key, or all
abbrev pub above : Option RunKey → List Record → List Record
above None table = table
above (Some key) table = filter (λ r. is_lt (key_cmp key r.key)) table

-- the first records above a key
abbrev pub first_above : List Record → Option RunKey → ℕ → List Record
first_above table after count = take count (above after table)

-- each key is below those after it
abbrev pub IsTable : List Record → Type 0
IsTable = IsAscending key_cmp (λ r. r.key)

-- both moments are moments that are kept
abbrev pub HasMoments : Record → Type 0
HasMoments r = (r.since ≤ greatest_moment) × (r.latest ≤ greatest_moment)

-- the record is above the key, where there is one
abbrev pub IsAbove : Option RunKey → Record → Type 0
IsAbove None r = Unit {0}
IsAbove (Some key) r = is_lt (key_cmp key r.key) ≡ true
