use Rattle.std.specs.Prelude.{IfOk}
use Rattle.std.proofs.Common.{◌≡◌, ◌∙◌, ap, subst}
use Rattle.host_rows.specs.Still.{keys_live_by}
use Rattle.host_rows.specs.Called.{last_deadline, with_called}
use Rattle.host_rows.specs.Deadlines.{due_keys}
use Rattle.host_rows.specs.Ledger.{Ledger}
use Rattle.host_rows.proofs.CalledLemmas.{called_live}
use Rattle.host_rows.proofs.ledger.Ledger.live_by.Goals as goal

-- the live keys with those of the called rows
pub returns : goal.returns
returns c =
    let m = c.args.moment in
    let n = c.self.inside.number in
    let rows = c.self.inside.rows.list in
    let ds = c.self.inside.deadlines.list in
    let same =
    c.in_ok-add_called.ensures
    ∙ (ap (with_called m rows (due_keys (last_deadline m) ds)) (c.in_ok-keys.ensures ∙ c.self.invariant.live)
    ∙ (called_live n m rows ds c.in_order-known.ensures.ascending c.self.invariant.counted.moments c.len-known.ensures.ascending c.self.invariant.filed.waits
    ∙ ap (λ (t : Ledger). keys_live_by t.number m t.list) c.self.view_is))
    in
    subst (λ wanted. IfOk c.to_list.result (λ made. made ≡ wanted)) same c.to_list.ensures
