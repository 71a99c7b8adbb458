use Rattle.ps_json.proofs.TakenLemmas.{get_member-without, get_member-without_other}
use Rattle.ps_json.proofs.law.law_taken_once.Goals as goal

pub returns-clause-gone : goal.returns-clause-gone
returns-clause-gone c = get_member-without

pub returns-clause-others : goal.returns-clause-others
returns-clause-others c = get_member-without_other
