use Rattle.std.proofs.Common.{ap, ◌∙◌}
use Rattle.limit_apply.specs.Limits.{IsPriority, ceiling_of}
use Rattle.limit_apply.proofs.CeilingLemmas.{of_ceiling}
use Rattle.limit_apply.proofs.SignedLemmas.{ceiling_kept}
use Rattle.limit_apply.proofs.limits.Limits.ceiling.Goals as goal

pub returns-clause-within : goal.returns-clause-within
returns-clause-within c =
    let within : IsPriority c.greatest_ceiling.result = of_ceiling _ c.args.self.now c.args.asker.now (c.greatest_ceiling.ensures ∙ ap (ceiling_of c.args.self.now) c.new.ensures) (rw (← c.self.view_is) c.self.invariant.priorities) in
    rw (ceiling_kept c.greatest_ceiling.result within.0 within.1) within
