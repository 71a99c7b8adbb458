use Rattle.machine_keep.proofs.ArmedLemmas.{told_made}
use Rattle.machine_keep.proofs.law.law_made.Goals as goal

pub returns : goal.returns
returns c old new calls = told_made old new calls
