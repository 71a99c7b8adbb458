use Rattle.std.proofs.Common.{◌≡◌, ◌≤◌, ◌∙◌, [], drop, ap, subst, sym, arith}
use Rattle.run_states.specs.Life.{settled_rows}
use Rattle.host_rows.specs.Deadlines.{due_keys, key_then, latest}
use Rattle.host_rows.specs.Ledger.{Ledger}
use Rattle.host_rows.proofs.FiledLemmas.{none_due}
use Rattle.host_rows.proofs.ledger.Ledger.settle.Goals as goal

-- no deadline has come any more
pub returns-clause-rows : goal.returns-clause-rows
returns-clause-rows c =
    let ds = c.self.inside.deadlines.list in
    let within : c.args.moment ≤ latest = omega (arith, c.ranges.moment) in
    let due : due_keys c.args.moment ds ≡ [] = c.due.ensures.walk ∙ ap (λ o. key_then o (due_keys c.args.moment (drop 1 ds))) c.in_default.is in
    let stands : settled_rows c.args.moment c.loop-key.self.list ≡ c.loop-key.self.list = subst (λ (t : Ledger). settled_rows c.args.moment t.list ≡ t.list) c.self.view_is (none_due c.args.moment ds within c.due.ensures.ascending c.self.inside.rows.list c.self.invariant.filed.waits due) in
    sym stands ∙ c.loop-key.invariant.settled
