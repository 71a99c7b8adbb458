-- The rows of one task, which stand side by side, since rows ascend by key.
use Rattle.std.specs.List.{last_or}
use Rattle.std.specs.Prelude.{◌&&◌, ◌==◌, ◌||◌, [], ◌∷◌, Bool, List, None, Option, Some, filter, if◌then◌else◌, max, nat_lt, ℕ}
use Rattle.run_states.specs.declared.row.RunRow.{RunRow}

-- the run is of this lead's task with this serial; the bookings of a host have serial 0
abbrev pub is_of_task : ℕ → ℕ → RunRow → Bool
is_of_task lead serial r = (r.key.lead == lead) && (r.key.task == serial)

-- the run is of an earlier lead or task
abbrev pub is_before_task : ℕ → ℕ → RunRow → Bool
is_before_task lead serial r = nat_lt r.key.lead lead || ((r.key.lead == lead) && nat_lt r.key.task serial)

-- the rows of the task, ascending by key
abbrev pub rows_of_task : ℕ → ℕ → List RunRow → List RunRow
rows_of_task lead serial rows = filter (is_of_task lead serial) rows

-- the row of the task with the greatest number and attempt: rows ascend by key
abbrev pub newest_row : ℕ → ℕ → List RunRow → Option RunRow
newest_row lead serial rows = last_or None (rows_of_task lead serial rows)

-- the number of a row that may be there
abbrev pub number_of : Option RunRow → ℕ
number_of None = 0
number_of (Some r) = r.key.number

-- the greatest number of a run of the task; 0 where there is none
abbrev pub greatest_number : ℕ → ℕ → List RunRow → ℕ
greatest_number lead serial [] = 0
greatest_number lead serial (r ∷ rs) = if is_of_task lead serial r then max r.key.number (greatest_number lead serial rs) else greatest_number lead serial rs
