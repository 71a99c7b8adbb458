-- The table that a database holds, and the one that the files of a database hold.
use Rattle.std.specs.Prelude.{◌≡◌, ◌⊎◌, List, []}
use Rattle.sqlite.specs.Files.{HoldsDatabase, AreFoundIn}
use Rattle.sqlite.specs.Recovery.{Image}
use Rattle.sqlite.specs.Tree.{Trees}
use Rattle.sqlite_catalog.specs.Listing.{IsSound}
use Rattle.result_rows.specs.Rows.{AreOf}
use Rattle.result_rows.specs.Table.{no_schema, results_schema}
use Rattle.result_table.specs.declared.record.Record.{Record}

-- the records of the rows of `result`, where that is all that the database lists, and none where it lists nothing
abbrev pub HoldsTable : Trees → List Record → Type 0
HoldsTable db table = (IsSound results_schema db × AreOf (db 0) table) ⊎ (IsSound no_schema db × (table ≡ []))

-- the table is that of the database which the two files hold: of what they recover to, or of an empty one where they hold nothing
pub record IsTableIn (image : Image) (table : List Record) : Type 0 where
  pub holds : (db : Trees) → HoldsDatabase image db → HoldsTable db table
  pub reads : (db : Trees) × AreFoundIn image db × HoldsTable db table
