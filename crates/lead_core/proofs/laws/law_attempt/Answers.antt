use Rattle.lead_core.proofs.StartLemmas.{next_scheduled}
use Rattle.lead_core.proofs.laws.law_attempt.Goals as goal

pub returns : goal.returns
returns c = next_scheduled
