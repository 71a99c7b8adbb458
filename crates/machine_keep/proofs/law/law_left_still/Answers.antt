use Rattle.machine_keep.proofs.LeftLemmas.{left_still}
use Rattle.machine_keep.proofs.law.law_left_still.Goals as goal

pub returns : goal.returns
returns g c old new first second unfound one two fed fed_too = left_still old.journal new.journal first second one two fed fed_too unfound.told
