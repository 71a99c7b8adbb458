use Rattle.std.proofs.Common.{◌∙◌, sym, ap}
use Rattle.host_model.specs.Book.{find_task}
use Rattle.host_model.proofs.Placed.{find_row-key}
use Rattle.lead_core.proofs.PlanningLemmas.{answered_unbooked, planned_at_key}
use Rattle.lead_core.proofs.planning.plan_run.Goals as goal

pub plan_answered-requires-clause-unbooked : goal.plan_answered-requires-clause-unbooked
plan_answered-requires-clause-unbooked g c = answered_unbooked (g.R.Reading.seen c.args.book.now) c.args.key c.in-Some.row.now (sym c.in-Some.ensures.row) (sym c.if-is_answered.ensures)

pub returns-in_ok-change-in-Some : goal.returns-in_ok-change-in-Some
returns-in_ok-change-in-Some g c b is found =
    let rows = g.R.Reading.seen c.args.book.now in
    let r = c.in-Some.row.now in
    let key = find_row-key rows c.args.key r (sym c.in-Some.ensures.row) in
    planned_at_key c.args.config.now b (g.R.Reading.at c.args.book.now) rows c.args.key r c.in_ok-change-in-Some.change is.rows (sym c.in-Some.ensures.row) (sym c.if-is_answered.ensures)
    (c.in_ok-change-in-Some.ensures b is (ap (λ k. find_task b.tasks k.task) key ∙ found))
