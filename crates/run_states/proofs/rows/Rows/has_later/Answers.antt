use Rattle.std.proofs.Common.{◌≡◌, ◌<◌, ◌≤◌, suc, length, sym, ap, ◌∙◌, add-one, arith}
use Rattle.std.specs.List.{list_any}
use Rattle.run_states.specs.Purging.{is_later}
use Rattle.run_states.specs.Rows.{Rows}
use Rattle.run_states.specs.TaskRows.{is_of_task}
use Rattle.run_states.proofs.TaskLemmas.{any_later_at, next_none, next_there}
use Rattle.run_states.proofs.rows.Rows.has_later.Goals as goal

-- the next row tells
pub returns-then-len-at-gt1 : goal.returns-then-len-at-gt1
returns-then-len-at-gt1 c =
    let rows = c.self.inside.rows.list in
    let seen : rows ≡ c.args.self.now.list = ap (λ (t : Rows). t.list) c.self.view_is in
    let d = c.index.result.now in
    let within : c.args.at < length rows = rw seen c.requires.within in
    let next : suc c.args.at < length rows = omega (arith, c.len.ensures, c.if-len-at-gt1.true) in
    let here = rw (← seen) at c.requires.same in
    c.is_of_task.ensures
    ∙ (ap (is_of_task c.args.key.lead c.args.key.task) (rw add-one at c.index.ensures)
    ∙ (sym (next_there c.args.key rows (suc c.args.at) d next)
    ∙ (sym (any_later_at c.args.key rows c.args.at c.self.invariant within here) ∙ ap (list_any (λ s. is_later c.args.key s.key)) seen)))

-- there is none
pub returns-else-len-at-gt1 : goal.returns-else-len-at-gt1
returns-else-len-at-gt1 c =
    let rows = c.self.inside.rows.list in
    let seen : rows ≡ c.args.self.now.list = ap (λ (t : Rows). t.list) c.self.view_is in
    let within : c.args.at < length rows = rw seen c.requires.within in
    let last : length rows ≤ suc c.args.at = omega (arith, c.len.ensures, c.if-len-at-gt1.false) in
    let here = rw (← seen) at c.requires.same in
    sym (next_none c.args.key rows (suc c.args.at) last)
    ∙ (sym (any_later_at c.args.key rows c.args.at c.self.invariant within here) ∙ ap (list_any (λ s. is_later c.args.key s.key)) seen)
