use mir.Syntax.{w64}
use mir.Val.{SFits}
use Rattle.std.proofs.Common.{rules}
use Rattle.std.proofs.Math.Facts.{to_z-of_z}
use Rattle.result_rows.proofs.PutLemmas.{puts_on}
use Rattle.result_rows.proofs.StateLemmas.{executed_open, refused_keeps}
use Rattle.result_rows.proofs.statement.put_row.Goals as goal

pub returns-clause-runs : goal.returns-clause-runs
returns-clause-runs g c clean =
    let moment : SFits w64 c.signed.result = search rules in
    let good : SFits w64 c.flag_number.result = search rules in
    let ran = c.execute_put.ensures.runs clean in
    rw (← c.signed.ensures, ← c.flag_number.ensures) (rw (to_z-of_z moment, to_z-of_z good) at ran)

pub returns-clause-sound : goal.returns-clause-sound
returns-clause-sound g c sound = (c.execute_put.ensures.clean sound.0, executed_open _ _ _ _ _ (returns-clause-runs g c sound.0) sound.1)

pub returns-clause-ok : goal.returns-clause-ok
returns-clause-ok g c table key range id good keeps clean = puts_on _ _ table key _ _ _ _ _ range id good keeps (returns-clause-runs g c clean)

pub returns-clause-err : goal.returns-clause-err
returns-clause-err g c table keeps sound = refused_keeps _ _ _ _ table _ (returns-clause-runs g c sound.0) keeps sound.1
