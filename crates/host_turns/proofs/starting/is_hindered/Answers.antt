use Rattle.std.proofs.Common.{◌∙◌}
use Rattle.host_turns.proofs.StartLemmas.{hindered_among}
use Rattle.host_turns.proofs.starting.is_hindered.Goals as goal

pub returns : goal.returns
returns g c = c.any_hinders.ensures ∙ hindered_among c.args.class (g.R.Reading.seen c.args.book.now) c.args.keys.now c.requires.ascending c.requires.hindering
