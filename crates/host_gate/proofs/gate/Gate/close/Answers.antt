use Rattle.std.proofs.Common.{◌≡◌, [], ◌∷◌, Some, sym, ap, ◌∙◌, subst}
use Rattle.host_gate.specs.declared.view.Mark.{Mark}
use Rattle.host_gate.specs.Marks.{Follows}
use Rattle.host_gate.proofs.gate.Gate.close.Goals as goal

pub take-kept-requires-clause-holds : goal.take-kept-requires-clause-holds
take-kept-requires-clause-holds g c =
    let served = c.wait.ensures.served in
    let m : Mark g.row.K.Denot = served.0 in
    let drawn = c.enter_last-ticket.ensures.drawn in
    let empty : c.enter_last-ticket.new.seat.me.1 ≡ [] = ap (λ s. s.1) drawn ∙ c.pass.invariant.empty in
    (c.enter_last-ticket.result, m, ap (λ s. s.0.stage) served.1, ap (λ s. s.1) served.1 ∙ ap (λ l. (0, Some m.state) ∷ l) empty)

pub returns : goal.returns
returns g c =
    let served = c.wait.ensures.served in
    let before = c.pass.invariant.seen in
    let drawn = c.enter_last-ticket.ensures.drawn in
    let taken = c.take-kept.ensures c.enter_last-ticket.result served.0 (ap (λ s. s.0.stage) served.1) in
    (before.0, sym (ap (λ v. v.seen) c.pass.view_is) ∙ before.1, subst (Follows g.K.Kept.grown before.0) taken (served.2 before.0 (ap (λ s. s.0.seen) drawn ∙ before.1)))
