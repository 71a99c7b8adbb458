use Rattle.std.proofs.Common.{ap, ◌∙◌, subst, arith}
use Rattle.host_gate.specs.Marks.{Meets}
use Rattle.host_gate.proofs.Steps.{later_front}
use Rattle.host_gate.proofs.gate.Gate.meet.Goals as goal

pub invariant_of-pass : goal.invariant_of-pass
invariant_of-pass g c =
    let left = c.join.ensures.rest in
    let kept = later_front g.K.Kept.grown g.met.K.Kept.grown_refl g.met.K.Kept.grown_trans _ _ _ _ _ c.pass.invariant.seen c.other.invariant.seen c.join.ensures.kept in record {
      outside = ap (λ s. s.0.stage) left ∙ c.pass.invariant.outside;
      alone = ap (λ s. s.0.met) left;
      empty = ap (λ s. s.1) left ∙ c.pass.invariant.empty;
      seen = (kept.0, kept.1, omega (arith, kept.2));
    }

pub returns-clause-same : goal.returns-clause-same
returns-clause-same g c = (c.join.ensures.table ∙ ap (λ v. v.gate) c.pass.view_is, ap (λ s. s.0.read) c.join.ensures.rest ∙ ap (λ v. v.read) c.pass.view_is)

pub returns-clause-kept : goal.returns-clause-kept
returns-clause-kept g c = subst (λ mine. Meets g.K.Kept.grown mine c.args.other.seen c.join.new.seat.me.0.seen) (ap (λ v. v.seen) c.pass.view_is)
    (subst (λ theirs. Meets g.K.Kept.grown c.pass.inside.seat.me.0.seen theirs c.join.new.seat.me.0.seen) (ap (λ v. v.seen) c.other.view_is) c.join.ensures.kept)
