use Rattle.lead_core.proofs.PlanningLemmas.{accepted_in}
use Rattle.lead_core.proofs.planning.change_of_plan.Goals as goal

pub returns-in-At : goal.returns-in-At
returns-in-At g c b is =
    let read = g.R.Reading in
    accepted_in c.accept.result c.args.config.now (read.seen c.args.book.now) (read.in_force c.args.book.now) (read.latest c.args.book.now) b (read.at c.args.book.now) c.args.row.now c.in-At.start c.in-At.tool c.args.planned is c.in-At.is c.accept.ensures
