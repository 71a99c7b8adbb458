use Rattle.std.proofs.Common.{sym, ap, ◌∙◌}
use Rattle.host_gate.proofs.gate.Pass.front.Goals as goal

pub returns : goal.returns
returns g c = let s = c.self.invariant.seen in (s.0, sym (ap (λ v. v.seen) c.self.view_is) ∙ s.1, s.2)
