-- A keeper in memory.
use Rattle.std.specs.Prelude.{◌≡◌, ℕ, List, map, Option, Some, None, Result, Ok, Err}
use Rattle.ps_ports.specs.Causes.{raised}
use Rattle.ps_ports.specs.Memory.{Calls, called}
use Rattle.ps_time.specs.declared.key.RunKey.{RunKey}
use Rattle.result_table.specs.Record.{put_record, IsTable}
use Rattle.result_table.specs.declared.keeper.KeeperFault.{KeeperFault}
use Rattle.result_table.specs.declared.keeper.KeeperFault.TheVariants.{Failed, Memory}
use Rattle.result_table.specs.declared.map_keeper.Stored.{Stored}
use Rattle.result_table.specs.declared.record.Record.{Record}

-- the record of an entry of the map, and all of them
abbrev pub record_of : RunKey × Stored → Record
record_of e = record { key = e.0; since = e.1.since; latest = e.1.latest; good = e.1.good; body = e.1.body }

abbrev pub records_of : List (RunKey × Stored) → List Record
records_of entries = map record_of entries

-- when the first result of the key came
abbrev pub since_in : Option Stored → ℕ → ℕ
since_in None moment = moment
since_in (Some stored) moment = stored.since

-- the table, the calls, and the count of faults
pub record KeeperState : Type 0 where
  pub table : List Record
  pub calls : Calls
  pub faults : ℕ

-- the count rises exactly where the call failed, and by one
abbrev pub faults_after : {A : Type 0} → ℕ → Result A KeeperFault → ℕ
faults_after count (Ok answer) = count
faults_after count (Err Failed) = raised count
faults_after count (Err Memory) = count

-- after a put and a reading call with these answers
abbrev pub after_put : {A : Type 0} → KeeperState → RunKey → ℕ → List ℕ → Result A KeeperFault → KeeperState
after_put k key moment body (Ok answer) = record { table = put_record k.table key moment body; calls = called k.calls; faults = k.faults }
after_put {A} k key moment body (Err fault) = record { table = k.table; calls = called k.calls; faults = faults_after {A = A} k.faults (Err fault) }

abbrev pub after_reading : {A : Type 0} → KeeperState → Result A KeeperFault → KeeperState
after_reading k result = record { table = k.table; calls = called k.calls; faults = faults_after k.faults result }

-- the table is this list
pub record HasTable (keeper : KeeperState) (table : List Record) : Type 0 where
  pub same : table ≡ keeper.table
  pub ascends : IsTable table
