use Rattle.machine_keep.proofs.ArmedLemmas.{armed_meets, armed_spared}
use Rattle.machine_keep.proofs.law.law_armed.Goals as goal

pub returns-clause-fault : goal.returns-clause-fault
returns-clause-fault g c old new result first second step = armed_meets old new result step first second

pub returns-clause-no_fault : goal.returns-clause-no_fault
returns-clause-no_fault g c old new result first second step = armed_spared old new result step first second
