use Rattle.book_check.proofs.StateLemmas.{by_place, one_by_one}
use Rattle.book_check.proofs.host_row.are_states.Goals as goal

pub returns : goal.returns
returns c = (
  λ is. by_place c.args.archives.now c.args.states.now (c.are_each_states.ensures.0 is),
  λ are. c.are_each_states.ensures.1 (one_by_one c.args.archives.now c.args.states.now are),
)
