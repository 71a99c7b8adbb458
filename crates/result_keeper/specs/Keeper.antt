-- What a keeper over SQL shows, and what its statements are given.
use Rattle.std.specs.Prelude.{ℕ, pos, List, [], ◌∷◌, Option}
use Rattle.sqlite_trees.specs.declared.store.Store.{Ghosts}
use Rattle.sqlite.specs.Held.{state}
use Rattle.sqlite.specs.Order.{Row}
use Rattle.sqlite.specs.State.{State}
use Rattle.sqlite.specs.declared.error.Error.{Error}
use Rattle.sqlite.specs.declared.error.Error.TheVariants.{SqliteFailure}
use Rattle.sqlite.specs.declared.error.ErrorCode.TheVariants.{OutOfMemory}
use Rattle.sqlite.specs.declared.types.Value.TheVariants.{Int, Text}
use Rattle.ps_time.specs.declared.key.RunKey.{RunKey}
use Rattle.ps_ports.specs.Causes.{raised}
use Rattle.result_rows.specs.Rows.{number_of, key_text, text_above}
use Rattle.result_keeper.specs.declared.sqlite_keeper.SqliteKeeper.{SqliteKeeper}
use Rattle.result_table.specs.Record.{says_good}
use Rattle.result_table.specs.declared.keeper.KeeperFault.{KeeperFault}
use Rattle.result_table.specs.declared.keeper.KeeperFault.TheVariants.{Failed, Memory}

-- what the keeper's connection shows
abbrev pub store_of : {S : Type 0} → Ghosts S → SqliteKeeper S → State
store_of g k = state g k.conn

-- what the statements are given: the key's identifier, the moment, 1 or 0, and the body
abbrev pub put_params : RunKey → ℕ → List ℕ → Row
put_params key moment body = Text (key_text key) ∷ Int (pos moment) ∷ Int (pos (number_of (says_good body))) ∷ Text body ∷ []

abbrev pub get_params : RunKey → Row
get_params key = Text (key_text key) ∷ []

abbrev pub list_params : Option RunKey → ℕ → Row
list_params after count = Text (text_above after) ∷ Int (pos count) ∷ []

-- what a refusal of the database means for a keeper
abbrev pub fault_of : Error → KeeperFault
fault_of (SqliteFailure OutOfMemory) = Memory
fault_of _ = Failed

-- the count after a statement was refused: it rises by one, unless memory ran out
abbrev pub faults_with : ℕ → KeeperFault → ℕ
faults_with count Failed = raised count
faults_with count Memory = count
