-- Rows of the table of results, and the records that they are.
use Rattle.std.specs.Prelude.{◌≡◌, ℕ, ℤ, pos, Bool, if◌then◌else◌, List, [], ◌∷◌, map, Option, Some, None, IsPermutation}
use Rattle.std.specs.List.{AllByRecursion}
use Rattle.sqlite.specs.Order.{Row, column}
use Rattle.sqlite.specs.declared.types.Value.TheVariants.{Int, Text}
use Rattle.sqlite_keyed.specs.Keyed.{IsKeyedBy}
use Rattle.ps_time.specs.Id.{id_text, InRange}
use Rattle.ps_time.specs.declared.id.Id.TheVariants.{Run}
use Rattle.ps_time.specs.declared.key.RunKey.{RunKey}
use Rattle.result_table.specs.Record.{IsTable}
use Rattle.result_table.specs.declared.record.Record.{Record}

-- a flag as a number
abbrev pub number_of : Bool → ℕ
number_of good = if good then 1 else 0

-- the identifier of a run, as it is written
unfoldable pub key_text : RunKey → List ℕ
key_text key = id_text (Run key)

-- the text that the texts of the identifiers above a key are above; the empty one, where there is none
abbrev pub text_above : Option RunKey → List ℕ
text_above None = []
text_above (Some key) = key_text key

-- the columns of a record: the run's identifier, both moments, 1 or 0, and the body
abbrev pub columns_of : Record → Row
columns_of r = Text (key_text r.key) ∷ Int (pos r.since) ∷ Int (pos r.latest) ∷ Int (pos (number_of r.good)) ∷ Text r.body ∷ []

-- the columns are those of the record, whose key has its widths
pub record IsRowOf (row : Row) (r : Record) : Type 0 where
  pub key : column row 0 ≡ Text (key_text r.key)
  pub range : InRange (Run r.key)
  pub since : column row 1 ≡ Int (pos r.since)
  pub latest : column row 2 ≡ Int (pos r.latest)
  pub good : column row 3 ≡ Int (pos (number_of r.good))
  pub body : column row 4 ≡ Text r.body

-- the columns are those of some record
abbrev pub IsRecord : Row → Type 0
IsRecord row = (r : Record) × IsRowOf row r

-- the columns of a row as it is stored, behind its number
abbrev pub columns_in : Row → Row
columns_in row = column row 1 ∷ column row 2 ∷ column row 3 ∷ column row 4 ∷ column row 5 ∷ []

-- a record and the number of its row, which the database chooses
abbrev pub Numbered : Type 0
Numbered = ℤ × Record

abbrev pub number : Numbered → ℤ
number e = e.0

abbrev pub kept : Numbered → Record
kept e = e.1

-- a row as it is stored: its number, and then the columns
abbrev pub row_of : Numbered → Row
row_of e = Int e.0 ∷ columns_of e.1

-- the fields of the record's key have their widths
abbrev pub HasKey : Record → Type 0
HasKey r = InRange (Run r.key)

-- and those of the key, where there is one
abbrev pub HasAfter : Option RunKey → Type 0
HasAfter None = Unit {0}
HasAfter (Some key) = InRange (Run key)

-- the rows, in the order of their numbers, are those of the table's records
pub record AreOf (rows : List Row) (table : List Record) : Type 0 where
  pub entries : List Numbered
  pub are : rows ≡ map row_of entries
  pub numbered : IsKeyedBy number entries
  pub same : IsPermutation table (map kept entries)
  pub ascends : IsTable table
  pub keys : AllByRecursion HasKey table
