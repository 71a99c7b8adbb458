use Rattle.std.proofs.Common.{None, ap, ◌∙◌, subst, arith}
use Rattle.host_gate.specs.Plays.{Sat}
use Rattle.host_gate.specs.Marks.{Meets}
use Rattle.host_gate.proofs.Moves.{compares, joins}
use Rattle.host_gate.proofs.turn.join.Goals as goal

pub join_seat-requires : goal.join_seat-requires
join_seat-requires g c =
    let r = c.requires in
    (r.table.0, r.table.1, r.alone.2, omega (arith, r.table.2), joins g.K.Kept.grown g.met.K.Kept.grown_refl g.met.K.Kept.grown_trans _ _ _ _ r.outside.0 r.outside.1 r.alone.0 r.alone.1)

pub load-requires : goal.load-requires
load-requires g c =
    let r = c.requires in
    let joined = c.join_seat.ensures in
    let now = joined.2 in (
      joined.0 ∙ r.table.0,
      omega (arith, r.table.2),
      compares g.K.Kept.grown g.met.K.Kept.grown_refl g.met.K.Kept.grown_trans _ _ _ r.seen.0 r.seen.1 (ap (λ m. m.0.stage) now ∙ r.outside.0) (ap (λ m. m.0.seen) now ∙ r.seen.2) (ap (λ m. m.0.met) now ∙ r.seen.3),
    )

pub returns-clause-kept : goal.returns-clause-kept
returns-clause-kept g c = subst (λ (m : Sat g.row.K.Denot). Meets g.K.Kept.grown m.0.seen m.0.met c.load.new.seat.me.0.seen) c.join_seat.ensures.2 c.load.ensures.2.0

pub returns-clause-rest : goal.returns-clause-rest
returns-clause-rest g c = c.load.ensures.2.1 ∙ (λ i. (record (c.join_seat.ensures.2 i).0 { seen = c.load.new.seat.me.0.seen; met = None }, (c.join_seat.ensures.2 i).1))
