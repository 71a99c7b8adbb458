-- What a keeper takes of a database that was just opened.
use Rattle.std.specs.Prelude.{List}
use Rattle.sqlite.specs.State.{State, IsLive, Opens}
use Rattle.sqlite.specs.declared.error.Error.{Error}
use Rattle.sqlite.specs.declared.error.Error.TheVariants.{SqliteFailure}
use Rattle.sqlite.specs.declared.error.ErrorCode.TheVariants.{OutOfMemory}
use Rattle.sqlite_catalog.specs.Listing as catalog
use Rattle.sqlite_trees.specs.View.{IsShaped}
use Rattle.sqlite_trees.specs.declared.store.Shape.TheVariants.{Table}
use Rattle.result_keeper.specs.declared.opening.OpenFault.{OpenFault}
use Rattle.result_keeper.specs.declared.opening.OpenFault.TheVariants.{Failed, Memory}
use Rattle.result_rows.specs.Found.{HoldsTable}
use Rattle.result_rows.specs.Keeps.{IsSound, Keeps}
use Rattle.result_rows.specs.Table.{results_schema}
use Rattle.result_table.specs.declared.record.Record.{Record}

-- what a refusal of the database means for who opens it
abbrev pub open_fault_of : Error → OpenFault
open_fault_of (SqliteFailure OutOfMemory) = Memory
open_fault_of _ = Failed

-- the connection was just opened, and the rows of a table of results rise by their numbers
pub record IsOpenedWith (s : State) : Type 0 where
  pub opens : Opens s
  pub live : IsLive s
  pub rises : catalog.IsSound results_schema s.now.trees → IsShaped Table (s.now.trees 0)

-- the keeper is sound, and has the table that the database held
pub record HasFound (old new : State) : Type 0 where
  pub sound : IsSound new
  pub table : List Record
  pub keeps : Keeps new table
  pub held : HoldsTable old.now.trees table
