use Rattle.std.proofs.Common.{◌≡◌, rules, arith, ◌∙◌}
use Rattle.std.proofs.lemmas.Int.{ints}
use mir.Val.{SFits, to_z, of_z}
use mir.Syntax.{w16}
use Rattle.limit_apply.proofs.CeilingLemmas.{ceiling_step}
use Rattle.limit_apply.proofs.limits.Limits.greatest_ceiling.Goals as goal

pub loop-entry-preserved : goal.loop-entry-preserved
loop-entry-preserved c =
    let fits : SFits w16 c.raised-greatest.result = search rules in
    let kept : to_z w16 (of_z w16 c.raised-greatest.result) ≡ c.raised-greatest.result = omega (arith, ints) in
    ceiling_step c.args.self.now c.args.asker.now _ _ _ _ c.args.self.now.priorities.ceilings c.loop-entry.entry-index _
    c.loop-entry-test.true c.loop-entry.invariant (kept ∙ c.raised-greatest.ensures) (search rules)
