use Rattle.machine_keep.proofs.ArmedLemmas.{no_fault_lacks}
use Rattle.machine_keep.proofs.law.law_no_fault.Goals as goal

pub returns : goal.returns
returns g c old new result step = no_fault_lacks old new result step
