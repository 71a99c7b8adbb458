use Rattle.std.proofs.Common.{◌∙◌, ap, sym}
use Rattle.host_rows.specs.Deadlines.{lifted}
use Rattle.host_rows.specs.declared.deadlines.Deadline.{Deadline}
use Rattle.host_rows.proofs.DeadlineLemmas.{drop_gap, drop_place}
use Rattle.host_rows.proofs.deadlines.Deadlines.lift.Goals as goal

-- the deadline at the place goes
pub returns-in-Ok-clause-list : goal.returns-in-Ok-clause-list
returns-in-Ok-clause-list c =
    let d : Deadline = record { moment = c.in-Some.moment; key = c.args.key } in
    let ds = c.args.self.now.list in
    c.take_out.ensures.list ∙ (sym (drop_place ds c.take_out.ensures.ascending d c.in-Ok.at c.in-Ok.ensures.found) ∙ sym (ap (λ o. lifted c.args.key o ds) c.in-Some.is))

-- it isn't there
pub returns-in-Err-clause-list : goal.returns-in-Err-clause-list
returns-in-Err-clause-list c =
    let d : Deadline = record { moment = c.in-Some.moment; key = c.args.key } in
    sym (ap (λ o. lifted c.args.key o c.args.self.now.list) c.in-Some.is ∙ drop_gap c.args.self.now.list d c.in-Err.field-0 c.in-Err.ensures.absent)
