use Rattle.ps_time.proofs.StartLemmas.{next_multiple_multiple, next_multiple_from, next_multiple_least}
use Rattle.ps_time.proofs.read_start.law_next_multiple.Goals as goal

pub returns : goal.returns
returns c = record { multiple = next_multiple_multiple; from = next_multiple_from; least = next_multiple_least }
