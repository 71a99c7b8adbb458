use Rattle.live_law.proofs.GroupLemmas.{turned_live}
use Rattle.live_law.proofs.law.law_purging.Goals as goal

pub returns : goal.returns
returns call = turned_live
