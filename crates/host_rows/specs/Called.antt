-- The keys of rows that wait and whose start has come, beside others.
use Rattle.std.specs.Prelude.{◌+◌, Bool, List, None, Option, Some, [], ◌∷◌, false, min, true, ℕ}
use Rattle.ps_time.specs.Numbers.{grace}
use Rattle.ps_time.specs.declared.key.RunKey.{RunKey}
use Rattle.run_states.specs.Rows.{find_row}
use Rattle.run_states.specs.declared.row.RunRow.{RunRow}
use Rattle.host_rows.specs.LiveKeys.{marked}
use Rattle.host_rows.specs.Still.{is_called}
use Rattle.host_rows.specs.Deadlines.{latest}

-- there is a row, it waits, and its start has come by m
abbrev pub is_called_at : ℕ → Option RunRow → Bool
is_called_at m None = false
is_called_at m (Some r) = is_called m r

-- the latest deadline of such a row
abbrev pub last_deadline : ℕ → ℕ
last_deadline m = min (m + (grace + 1)) latest

-- the keys, with this one where the test holds
abbrev pub added_if : Bool → List RunKey → RunKey → List RunKey
added_if true ks k = marked true ks k
added_if false ks k = ks

-- the keys, with those of these that are of such rows
abbrev pub with_called : ℕ → List RunRow → List RunKey → List RunKey → List RunKey
with_called m rows [] ks = ks
with_called m rows (k ∷ due) ks = with_called m rows due (added_if (is_called_at m (find_row rows k)) ks k)
