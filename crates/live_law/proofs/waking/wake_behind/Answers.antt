use Rattle.std.proofs.Common.{◌+◌, subst, sym, arith}
use Rattle.schedule_rule.specs.Rule.{IsRule}
use Rattle.live_law.proofs.WakingLemmas.{wake_high}
use Rattle.live_law.proofs.waking.wake_behind.Goals as goal

pub returns-in-None : goal.returns-in-None
returns-in-None c =
    let bounds : IsRule c.args.rule.now = subst IsRule c.rule.view_is c.rule.invariant in
    sym (wake_high c.args.rule.now (c.args.key.number + 1) bounds (omega (arith, c.in-None.ensures)))
