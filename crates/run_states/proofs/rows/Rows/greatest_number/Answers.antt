use Rattle.std.proofs.Common.{◌≡◌, ap, ◌∙◌}
use Rattle.run_states.specs.Rows.{Rows}
use Rattle.run_states.specs.TaskRows.{greatest_number, newest_row, number_of}
use Rattle.run_states.proofs.TaskLemmas.{greatest_last}
use Rattle.run_states.proofs.rows.Rows.greatest_number.Goals as goal

-- numbers of a task rise
pub returns : goal.returns
returns c =
    let rows = c.self.inside.rows.list in
    let seen : rows ≡ c.args.self.now.list = ap (λ (t : Rows). t.list) c.self.view_is in
    let newest = c.newest_in-newest.ensures ∙ ap (newest_row c.args.lead c.args.serial) c.in_order.ensures in
    c.number_of.ensures ∙ (ap number_of newest ∙ (greatest_last c.args.lead c.args.serial rows c.self.invariant ∙ ap (greatest_number c.args.lead c.args.serial) seen))
