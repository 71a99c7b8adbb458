use Rattle.std.proofs.Common.{◌∷◌, Some, arith, sym, ◌∙◌, subst}
use Rattle.host_gate.specs.declared.view.Stage.{Stage}
use Rattle.host_gate.specs.declared.view.Stage.TheVariants.{Holds}
use Rattle.host_gate.specs.Stages.{HasTicket}
use Rattle.host_gate.proofs.Moves.{looks}
use Rattle.host_gate.proofs.turn.look.Goals as goal

pub load-requires : goal.load-requires
load-requires g c = let r = c.requires in
    (r.table.0, omega (arith, r.table.1), looks g.K.Kept.grown g.met.K.Kept.grown_refl g.met.K.Kept.grown_trans _ _ _ _ r.waits)

pub returns-clause-served : goal.returns-clause-served
returns-clause-served g c = λ come.
    let told = c.load.ensures.2.0 (subst (λ (s : Stage g.row.K.Denot). HasTicket s c.load.result) (sym c.requires.waits) (sym come)) in
    (told.0, told.1 ∙ (λ i. (record c.args.seat.now.me.0 { stage = Holds (come i) told.0 }, (0, Some told.0.state) ∷ c.args.seat.now.me.1)), told.2)

pub returns-clause-not : goal.returns-clause-not
returns-clause-not g c = λ other. c.load.ensures.2.1 (λ h. other (sym (subst (λ (s : Stage g.row.K.Denot). HasTicket s c.load.result) c.requires.waits h)))
