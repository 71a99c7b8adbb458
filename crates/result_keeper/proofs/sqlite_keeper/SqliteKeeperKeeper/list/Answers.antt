use mir.Syntax.{w64}
use mir.Val.{SFits}
use Rattle.std.proofs.Common.{◌∙◌, rules}
use Rattle.std.proofs.Math.Facts.{to_z-of_z}
use Rattle.result_keeper.specs.Row.{AreRowsOf}
use Rattle.result_keeper.proofs.RowLemmas.{listed_is}
use Rattle.result_rows.proofs.SelectLemmas.{first_keys}
use Rattle.result_table.specs.Record.{first_above}
use Rattle.result_keeper.proofs.sqlite_keeper.SqliteKeeperKeeper.list.Goals as goal

pub returns-in-Some-clause-records : goal.returns-in-Some-clause-records
returns-in-Some-clause-records g c table keeps sound =
    let fits : SFits w64 c.from.result = search rules in
    let shown = c.in-Ok.ensures.rows table c.args.after c.args.count c.in_ok-id.ensures.range (c.as_str.ensures ∙ c.in_ok-id.ensures.text) (to_z-of_z fits ∙ c.from.ensures) keeps sound.0 in
    let read : AreRowsOf c.as_slice.result.now c.in-Some.records.items = rw c.in-Some.is at c.in_ok-records.ensures.rows in
    listed_is (first_above table c.args.after c.args.count) c.in-Some.records.items c.as_slice.result.now (first_keys table c.args.after c.args.count keeps.rows.keys) (c.as_slice.ensures.value ∙ shown) read
