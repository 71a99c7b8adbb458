-- Rows in the order of their keys, told one after another.
use Rattle.std.specs.List.{AllByRecursion}
use Rattle.std.specs.Prelude.{◌≡◌, List, None, Option, Some}
use Rattle.std.specs.declared.cmp.Ordering.TheVariants.{Less}
use Rattle.ps_time.specs.Key.{key_cmp}
use Rattle.ps_time.specs.declared.key.RunKey.{RunKey}
use Rattle.run_states.specs.Rows.{IsAscendingRows}
use Rattle.run_states.specs.declared.row.RunRow.{RunRow}

-- the key is above the one before it, if there is one
abbrev pub IsAbove : Option RunKey → RunKey → Type 0
IsAbove None k = Unit {0}
IsAbove (Some j) k = key_cmp j k ≡ Less

-- the rows are in order, and above the key before them
abbrev pub AreAbove : Option RunKey → List RunRow → Type 0
AreAbove None rows = IsAscendingRows rows
AreAbove (Some j) rows = AllByRecursion (λ r. key_cmp j r.key ≡ Less) rows × IsAscendingRows rows
