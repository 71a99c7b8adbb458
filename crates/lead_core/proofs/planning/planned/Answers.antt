use Rattle.lead_core.proofs.PlanningLemmas.{all_in_time}
use Rattle.lead_core.proofs.planning.planned.Goals as goal

pub returns-clause-in_time : goal.returns-clause-in_time
returns-clause-in_time g c = all_in_time c.plan.result c.wanted_tools.result.now c.args.row.now c.in_ok-own.own c.moment.result c.requires.may.question c.plan.ensures
