use Rattle.live_law.proofs.GroupLemmas.{turned_begun}
use Rattle.live_law.proofs.law.law_begun.Goals as goal

pub returns : goal.returns
returns call = turned_begun
