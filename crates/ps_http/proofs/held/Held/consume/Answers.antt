use Rattle.std.proofs.Common.{◌∙◌, ◌≤◌, ◌-◌, ap, take, drop, length, arith, length-take}
use Rattle.ps_http.proofs.HeldLemmas.{moved}
use Rattle.ps_http.proofs.held.Held.consume.Goals as goal

pub returns : goal.returns
returns c =
    let held = c.self.inside in
    let some : c.args.count ≤ held.count = omega (arith, c.requires, ap length c.self.view_is, length-take held.count held.bytes.items) in
    ap (take (held.count - c.args.count)) c.copy_within.ensures.items
    ∙ moved c.args.count held.count held.bytes.items some (omega (arith, c.self.invariant)) ∙ ap (drop c.args.count) c.self.view_is
