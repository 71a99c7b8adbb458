use Rattle.std.proofs.Common.{refl, sym, ap, ◌∙◌, subst, arith}
use Rattle.host_gate.specs.Plays.{Sat}
use Rattle.host_gate.specs.Calls.{IsIdle}
use Rattle.host_gate.proofs.Moves.{splits}
use Rattle.host_gate.proofs.gate.Gate.split.Goals as goal

pub split_seat-seat-requires : goal.split_seat-seat-requires
split_seat-seat-requires g c = (
  ap (λ v. v.gate) c.pass.view_is ∙ (c.requires ∙ sym c.self.view_is),
  omega (arith, c.self.invariant),
  splits g.K.Kept.grown g.met.K.Kept.grown_refl g.met.K.Kept.grown_trans _ _ c.pass.invariant.outside,
)

pub invariant_of-pass : goal.invariant_of-pass
invariant_of-pass g c = subst (λ (me : Sat g.row.K.Denot). IsIdle me c.pass.inside.front) (sym c.split_seat-seat.ensures.2) c.pass.invariant

pub invariant_of-result : goal.invariant_of-result
invariant_of-result g c = let was = c.pass.invariant in subst (λ (me : Sat g.row.K.Denot). IsIdle me c.pass.inside.front) (sym c.split_seat-seat.ensures.4)
    record { outside = was.outside; alone = was.alone; empty = refl; seen = was.seen }
