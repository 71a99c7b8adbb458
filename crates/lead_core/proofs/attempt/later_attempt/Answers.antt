use Rattle.std.proofs.Common.{◌+◌, refl, subst, arith}
use Rattle.ps_time.specs.Numbers.{plan_lead}
use Rattle.schedule_rule.specs.Rule.{IsRule}
use Rattle.lead_core.proofs.AttemptLemmas.{no_later}
use Rattle.lead_core.proofs.attempt.later_attempt.Goals as goal

pub returns-in-None : goal.returns-in-None
returns-in-None c =
    let bounds : IsRule c.args.rule.now = subst IsRule c.rule.view_is c.rule.invariant in
    no_later c.args.rule.now (c.args.moment + plan_lead) bounds c.args.moment (c.args.key.number + 1) refl (omega (arith, c.in-None.ensures))
