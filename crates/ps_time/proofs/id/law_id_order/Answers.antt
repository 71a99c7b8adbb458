use Rattle.ps_time.proofs.IdOrderLemmas.{ordered_as_keys}
use Rattle.ps_time.proofs.id.law_id_order.Goals as goal

pub returns : goal.returns
returns c = ordered_as_keys
