-- A keeper in memory.
use Rattle.std.proofs.Common.{Result, Ok, Err, IfOk, []}
use Rattle.sqlite.proofs.Callers.{memory_is_clean}
use Rattle.sqlite.specs.State.{HasCleanDisk}
use Rattle.sqlite.specs.Steps.{over_memory}
use Rattle.sqlite_trees.specs.declared.memory.MemStore.{MemStore}
use Rattle.result_keeper.specs.Keeper.{store_of}
use Rattle.result_keeper.specs.declared.opening.OpenFault.{OpenFault}
use Rattle.result_keeper.specs.declared.sqlite_keeper.SqliteKeeper.{SqliteKeeper}
use Rattle.result_rows.specs.Keeps.{IsSound, Keeps}

abbrev Made : SqliteKeeper MemStore → Type 0
Made keeper = HasCleanDisk (store_of over_memory keeper) → IsSound (store_of over_memory keeper) × Keeps (store_of over_memory keeper) []

pub is_sound_in_memory : (r : Result (SqliteKeeper MemStore) OpenFault) → IfOk r Made → IfOk r (λ keeper. IsSound (store_of over_memory keeper))
is_sound_in_memory (Ok keeper) made = (made (memory_is_clean keeper.conn)).0
is_sound_in_memory (Err fault) made = tt

pub has_table_in_memory : (r : Result (SqliteKeeper MemStore) OpenFault) → IfOk r Made → IfOk r (λ keeper. Keeps (store_of over_memory keeper) [])
has_table_in_memory (Ok keeper) made = (made (memory_is_clean keeper.conn)).1
has_table_in_memory (Err fault) made = tt
