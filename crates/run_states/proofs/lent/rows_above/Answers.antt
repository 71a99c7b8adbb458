use Rattle.std.proofs.Common.{◌∙◌, sym}
use Rattle.run_states.proofs.TaskLemmas.{above_part}
use Rattle.run_states.proofs.lent.rows_above.Goals as goal

pub returns : goal.returns
returns c = c.from.ensures ∙ sym (above_part c.args.key c.args.rows.now c.place_above.result c.place_above.ensures.parted)
