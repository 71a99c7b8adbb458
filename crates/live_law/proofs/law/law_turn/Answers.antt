use Rattle.live_law.proofs.GroupLemmas.{turned_same}
use Rattle.live_law.proofs.law.law_turn.Goals as goal

pub returns : goal.returns
returns call = turned_same
