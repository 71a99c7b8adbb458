-- A connection whose database has a table of results.
use Rattle.std.specs.Prelude.{◌≡◌, false, IsTrue, List, []}
use Rattle.sqlite.specs.State.{State, HasCleanDisk}
use Rattle.result_rows.specs.Rows.{AreOf}
use Rattle.result_rows.specs.Table.{results_schema}
use Rattle.result_table.specs.declared.record.Record.{Record}

-- what the connection shows is so: the disk gave back what was written, and no fault has shut the connection
abbrev pub IsSound : State → Type 0
IsSound s = HasCleanDisk s × IsTrue s.is_open

-- outside a transaction, the table of results is all that the database has, and its rows are the table's records
pub record Keeps (s : State) (table : List Record) : Type 0 where
  pub schema : s.now.schema ≡ results_schema
  pub rows : AreOf (s.now.trees 0) table
  pub committed : s.committed ≡ s.now
  pub autocommit : s.in_transaction ≡ false
  pub unmarked : s.marks ≡ []
