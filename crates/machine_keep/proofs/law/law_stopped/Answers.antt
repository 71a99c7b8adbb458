use Rattle.machine_keep.proofs.StoppedLemmas.{stopped}
use Rattle.machine_keep.proofs.law.law_stopped.Goals as goal

pub returns : goal.returns
returns c old new calls first second stop one two = stopped old new calls first second one two stop
