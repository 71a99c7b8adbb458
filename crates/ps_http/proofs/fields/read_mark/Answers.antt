use Rattle.ps_http.proofs.AsciiLemmas.{not_peer}
use Rattle.ps_http.proofs.fields.read_mark.Goals as goal

pub returns-in_default : goal.returns-in_default
returns-in_default c = not_peer c.args.value.now c.in_default.ensures.cases.0
