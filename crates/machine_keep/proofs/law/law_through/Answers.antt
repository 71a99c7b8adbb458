use Rattle.machine_keep.proofs.ArmedLemmas.{armed_spared}
use Rattle.machine_keep.proofs.StoppedLemmas.{runs_through}
use Rattle.machine_keep.proofs.law.law_through.Goals as goal

pub returns : goal.returns
returns g c old new result calls first second step no_fault told one two = runs_through old new calls first second one two (armed_spared old new result step first second one two no_fault) told
