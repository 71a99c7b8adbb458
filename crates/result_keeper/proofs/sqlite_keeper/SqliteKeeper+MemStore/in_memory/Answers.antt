use Rattle.std.proofs.Common.{rules}
use Rattle.result_keeper.proofs.KeeperLemmas.{is_sound_in_memory, has_table_in_memory}
use Rattle.result_keeper.proofs.sqlite_keeper.SqliteKeeper+MemStore.in_memory.Goals as goal

pub returns-clause-sound : goal.returns-clause-sound
returns-clause-sound c = is_sound_in_memory c.over.result (c.over.ensures.empty (search rules))

pub returns-clause-table : goal.returns-clause-table
returns-clause-table c = has_table_in_memory c.over.result (c.over.ensures.empty (search rules))
