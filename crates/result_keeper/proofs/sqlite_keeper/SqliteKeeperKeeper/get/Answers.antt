use Rattle.std.proofs.Common.{◌∙◌}
use Rattle.result_keeper.specs.Row.{IsFound}
use Rattle.result_keeper.proofs.RowLemmas.{found_is}
use Rattle.result_rows.proofs.SelectLemmas.{found_key}
use Rattle.result_table.specs.Record.{find_record}
use Rattle.result_keeper.proofs.sqlite_keeper.SqliteKeeperKeeper.get.Goals as goal

pub returns-in-Some-clause-found : goal.returns-in-Some-clause-found
returns-in-Some-clause-found g c table keeps sound =
    let shown = c.in-Ok.ensures.rows table c.args.key c.in_ok-id.ensures.range (c.as_str.ensures ∙ c.in_ok-id.ensures.text) keeps sound.0 in
    let read : IsFound c.as_slice.result.now c.in-Some.found = rw c.in-Some.is at c.in_ok-found.ensures.rows in
    found_is (find_record table c.args.key) c.in-Some.found c.as_slice.result.now (found_key table c.args.key keeps.rows.ascends keeps.rows.keys) (c.as_slice.ensures.value ∙ shown) read
