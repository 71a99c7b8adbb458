use Rattle.std.proofs.Common.{◌≡◌, ◌≤◌, ◌∙◌, Option, None, Some, [], false, is_some, drop, ap, subst, sym, refl, arith}
use Rattle.ps_time.specs.declared.key.RunKey.{RunKey}
use Rattle.run_states.specs.Life.{settled_rows}
use Rattle.host_rows.specs.Deadlines.{due_keys, key_then, latest}
use Rattle.host_rows.specs.Ledger.{Ledger}
use Rattle.host_rows.proofs.FiledLemmas.{none_due}
use Rattle.host_rows.proofs.ledger.Ledger.may_lapse.Goals as goal

none : (o : Option RunKey) → is_some o ≡ false → o ≡ None
none None off = refl
none (Some k) off = cc

-- the first deadline hasn't come
pub returns : goal.returns
returns c = λ off.
    let ds = c.self.inside.deadlines.list in
    let within : c.args.moment ≤ latest = omega (arith, c.ranges.moment) in
    let gone : c.due.result ≡ None = none c.due.result (sym c.is_some.ensures ∙ off) in
    let due : due_keys c.args.moment ds ≡ [] = c.due.ensures.walk ∙ ap (λ o. key_then o (due_keys c.args.moment (drop 1 ds))) gone in
    subst (λ (t : Ledger). settled_rows c.args.moment t.list ≡ t.list) c.self.view_is (none_due c.args.moment ds within c.due.ensures.ascending c.self.inside.rows.list c.self.invariant.filed.waits due)
