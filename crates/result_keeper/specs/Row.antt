-- Rows of the table of results, as records.
use Rattle.std.specs.Prelude.{◌≡◌, Bool, true, ◌&&◌, List, [], ◌∷◌, Option, Some, None}
use Rattle.std.specs.Ordering.{is_lt}
use Rattle.sqlite.specs.Order.{Row}
use Rattle.ps_time.specs.Key.{key_cmp}
use Rattle.ps_time.specs.declared.key.RunKey.{RunKey}
use Rattle.result_rows.specs.Rows.{IsRowOf}
use Rattle.result_table.specs.declared.record.Record.{Record}

-- each record is that of its row
abbrev pub AreRowsOf : List Row → List Record → Type 0
AreRowsOf [] [] = Unit {0}
AreRowsOf [] (r ∷ records) = ⊥
AreRowsOf (row ∷ rows) [] = ⊥
AreRowsOf (row ∷ rows) (r ∷ records) = IsRowOf row r × AreRowsOf rows records

-- what the rows of one key stand for
abbrev pub IsFound : List Row → Option Record → Type 0
IsFound rows None = rows ≡ []
IsFound rows (Some r) = (row : Row) × (rows ≡ row ∷ []) × IsRowOf row r

-- the key is above the other, where there is one
abbrev pub is_further : Option RunKey → RunKey → Bool
is_further None key = true
is_further (Some last) key = is_lt (key_cmp last key)

-- each key is above the one before it, and the first above the given one
abbrev pub in_order : Option RunKey → List Record → Bool
in_order last [] = true
in_order last (r ∷ rs) = is_further last r.key && in_order (Some r.key) rs
