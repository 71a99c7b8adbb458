use Rattle.std.proofs.Common.{Some, refl, subst}
use Rattle.std.specs.Prelude.{List, Option, ℕ}
use Rattle.machine_keep.specs.Calls.{TellsIn, image_calls}
use Rattle.machine_keep.specs.Course.{IsShortened}
use Rattle.machine_keep.proofs.CourseLemmas.{turned_many}
use Rattle.machine_keep.proofs.keep.Keep.shorten.Goals as goal

pub returns-in-Ok-clause-shortened : goal.returns-in-Ok-clause-shortened
returns-in-Ok-clause-shortened g c =
    let turned = c.in-Ok.ensures.turned in
    let new = c.put_snapshot.new.journal in
    subst (λ k. (x : Option (List ℕ)) × IsShortened g.M.Machine.stands_for (g.M.Machine.state k.machine) k.put_off c.self.inside.put_off k.journal x new × TellsIn g.D.Disk.told k.journal new (image_calls k.journal x)) c.self.view_is
    (Some turned.0, (turned_many _ c.args.self.now c.has_many_records.result c.self.view_is c.has_many_records.ensures c.if-not-has_many_records.false, turned.1, refl, turned.2), turned.3)
