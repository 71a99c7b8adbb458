use Rattle.std.proofs.Common.{◌≡◌, [], ◌∷◌, Some, refl, sym, ap, ◌∙◌, subst}
use Rattle.std.proofs.lemmas.Option.{same_Some}
use Rattle.host_gate.specs.declared.view.Mark.{Mark}
use Rattle.host_gate.specs.declared.view.View.{View}
use Rattle.host_gate.specs.declared.view.Stage.TheVariants.{Outside}
use Rattle.host_gate.specs.Plays.{mark, leaving}
use Rattle.host_gate.proofs.Moves.{carried_or}
use Rattle.host_gate.proofs.Steps.{stepped}
use Rattle.host_gate.proofs.turn.serve.Goals as goal

pub step-reply-requires-clause-taken : goal.step-reply-requires-clause-taken
step-reply-requires-clause-taken g c =
    let served = c.wait.ensures.served in
    let m : Mark g.row.K.Denot = served.0 in
    let may = c.requires.may in
    let carried : c.wait.new.seat.me.1 ≡ (0, Some m.state) ∷ [] = ap (λ s. s.1) served.1 ∙ ap (λ l. (0, Some m.state) ∷ l) c.requires.waits.1 in
    (m.state, carried, g.met.K.Kept.may_grown may.0.state m.state c.args.call (served.2 may.0 may.1).grows may.2)

pub count-front-requires-clause-left : goal.count-front-requires-clause-left
count-front-requires-clause-left g c =
    let served = c.wait.ensures.served in
    let m : Mark g.row.K.Denot = served.0 in
    let carried : c.wait.new.seat.me.1 ≡ (0, Some m.state) ∷ [] = ap (λ s. s.1) served.1 ∙ ap (λ l. (0, Some m.state) ∷ l) c.requires.waits.1 in
    let did = c.step-reply.ensures.step in
    let found : did.0 ≡ m.state = same_Some did.0 m.state (ap (carried_or (Some m.state)) (sym did.2 ∙ carried)) in
    let view = c.step-reply.ensures.view ∙ ap (λ s. s.0) served.1 in
    (c.args.ticket, m, did.1, ap (λ (v : View g.row.K.Denot). v.stage) view, did.3, subst (λ x. g.K.Kept.grown x did.1) found did.5, λ none. did.6 none ∙ found)

pub end-requires-clause-left : goal.end-requires-clause-left
end-requires-clause-left g c =
    let served = c.wait.ensures.served in
    let m : Mark g.row.K.Denot = served.0 in
    let did = c.step-reply.ensures.step in
    let view = c.step-reply.ensures.view ∙ ap (λ s. s.0) served.1 in
    let told = c.count-front.ensures.counted c.args.ticket m did.1 (ap (λ (v : View g.row.K.Denot). v.stage) view) did.3 in
    (c.args.ticket, mark did.1 c.count-front.result, ap (λ s. s.0.stage) told.1, ap (λ s. s.1) told.1 ∙ did.3)

pub returns-clause-step : goal.returns-clause-step
returns-clause-step g c =
    let served = c.wait.ensures.served in
    let m : Mark g.row.K.Denot = served.0 in
    let before = c.requires.may in
    let carried : c.wait.new.seat.me.1 ≡ (0, Some m.state) ∷ [] = ap (λ s. s.1) served.1 ∙ ap (λ l. (0, Some m.state) ∷ l) c.requires.waits.1 in
    let did = c.step-reply.ensures.step in
    let found : did.0 ≡ m.state = same_Some did.0 m.state (ap (carried_or (Some m.state)) (sym did.2 ∙ carried)) in
    let view = c.step-reply.ensures.view ∙ ap (λ s. s.0) served.1 in
    let told = c.count-front.ensures.counted c.args.ticket m did.1 (ap (λ (v : View g.row.K.Denot). v.stage) view) did.3 in
    let left = ap (λ s. s.0.seen) c.end.ensures.ended ∙ ap (λ s. s.0.seen) told.1 in
    stepped g.K.Kept.grown g.met.K.Kept.grown_refl g.met.K.Kept.grown_trans g.K.Kept.steps c.args.seat.now.me.0.seen c.end.new.seat.me.0.seen before.0 m c.args.call c.step-reply.result.0 c.step-reply.result.1 did.1 c.count-front.result before.1 left (served.2 before.0 before.1)
    (subst (λ x. g.K.Kept.steps x c.args.call c.step-reply.result.0 c.step-reply.result.1 did.1) found did.4) (subst (λ x. g.K.Kept.grown x did.1) found did.5) (λ none. did.6 none ∙ found) told.0

pub returns-clause-front : goal.returns-clause-front
returns-clause-front g c =
    let served = c.wait.ensures.served in
    let did = c.step-reply.ensures.step in
    let view = c.step-reply.ensures.view ∙ ap (λ s. s.0) served.1 in
    let told = c.count-front.ensures.counted c.args.ticket served.0 did.1 (ap (λ (v : View g.row.K.Denot). v.stage) view) did.3 in
    (mark did.1 c.count-front.result, ap (λ s. s.0.seen) c.end.ensures.ended ∙ ap (λ s. s.0.seen) told.1, refl)

pub returns-clause-rest : goal.returns-clause-rest
returns-clause-rest g c =
    let served = c.wait.ensures.served in
    let did = c.step-reply.ensures.step in
    let view = c.step-reply.ensures.view ∙ ap (λ s. s.0) served.1 in
    let front = c.count-front.result in
    let told = c.count-front.ensures.counted c.args.ticket served.0 did.1 (ap (λ (v : View g.row.K.Denot). v.stage) view) did.3 in
    let ended = c.end.ensures.ended ∙ (λ i. (record (told.1 i).0 { stage = Outside }, [])) ∙ (λ i. (record (leaving (view i) c.args.ticket did.1 front) { stage = Outside }, [])) in
    ended ∙ (λ i. (record c.args.seat.now.me.0 { stage = Outside; seen = sym (ap (λ s. s.0.seen) ended) i }, []))
