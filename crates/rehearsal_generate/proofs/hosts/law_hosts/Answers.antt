use Rattle.rehearsal_generate.proofs.HostLemmas.{eight_work, lawful_work}
use Rattle.rehearsal_generate.proofs.hosts.law_hosts.Goals as goal

pub returns-clause-lawful : goal.returns-clause-lawful
returns-clause-lawful c = lawful_work

pub returns-clause-eight : goal.returns-clause-eight
returns-clause-eight c = eight_work
