use Rattle.result_table.proofs.VisitLemmas.{piece_next, further_next}
use Rattle.result_table.proofs.visit.visit_piece.Goals as goal

pub returns-clause-visited : goal.returns-clause-visited
returns-clause-visited g c table has sound =
    rw (c.next_after.ensures.key, c.as_slice-2.ensures.value, c.in_ok-visit_all.ensures, c.as_slice.ensures.value)
    (piece_next g.V.Visitor.after g.V.Visitor.is_full g.met.V.Visitor.full_stays c.args.visitor.now table c.in_ok-piece.piece.items c.args.after
    (g.met.Q.Keeper.is_table c.args.keeper.now table has) (c.in_ok-piece.ensures.records table has sound))

pub returns-clause-further : goal.returns-clause-further
returns-clause-further g c =
    rw (c.next_after.ensures.key, c.as_slice-2.ensures.value)
    (further_next c.args.after (g.V.Visitor.is_full c.visit_all.new.visitor) c.in_ok-piece.piece.items c.in_ok-piece.ensures.above)
