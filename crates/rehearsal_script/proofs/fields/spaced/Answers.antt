use Rattle.std.proofs.Common.{◌∙◌}
use Rattle.rehearsal_script.proofs.JoinLemmas.{spaced_parts}
use Rattle.rehearsal_script.proofs.fields.spaced.Goals as goal

pub returns : goal.returns
returns c = c.from_string.ensures ∙ (c.in_ok-join.ensures.ok ∙ spaced_parts c.args.parts.now)
