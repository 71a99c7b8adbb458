use Rattle.std.proofs.Common.{◌≡◌, ◌∙◌, IfOk, OnOk, ap, subst}
use Rattle.rehearsal_model.specs.Moves.{place_numbered, receiver}
use Rattle.rehearsal_model.specs.Simulations.{Simulation}
use Rattle.rehearsal_model.specs.Seen.{landed}
use Rattle.rehearsal_model.specs.declared.outcome.StepOutcome.{StepOutcome}
use Rattle.rehearsal_lines.proofs.ArriveLemmas.{asks_there, outcome_so, ready_there, step_so}
use Rattle.rehearsal_lines.proofs.arrive.bring.Goals as goal

-- the host to which the message goes, once it has landed
pub step_shown-requires-clause-ready : goal.step_shown-requires-clause-ready
step_shown-requires-clause-ready c =
    let hosts = c.args.hosts.now in
    let b : Simulation = c.args.now.now in
    let n = c.args.position in
    let l = c.message_at.result.now in
    let place_is : c.place_of-place.result ≡ receiver hosts l = c.place_of-place.ensures ∙ ap (place_numbered hosts) c.goes_to.ensures in
    let now_is : c.land.new.self ≡ record b { flying = landed n b.flying } = c.land.ensures ∙ ap (λ (x : Simulation). record x { flying = landed n x.flying }) c.in_ok-input.ensures.simulation in
    ready_there hosts b n l c.requires.playing c.message_at.ensures c.place_of-place.result place_is c.land.new.self now_is c.args.clock c.requires.clock

pub step_shown-requires-clause-input : goal.step_shown-requires-clause-input
step_shown-requires-clause-input c =
    let hosts = c.args.hosts.now in
    let b : Simulation = c.args.now.now in
    let n = c.args.position in
    let l = c.message_at.result.now in
    let place_is : c.place_of-place.result ≡ receiver hosts l = c.place_of-place.ensures ∙ ap (place_numbered hosts) c.goes_to.ensures in
    let now_is : c.land.new.self ≡ record b { flying = landed n b.flying } = c.land.ensures ∙ ap (λ (x : Simulation). record x { flying = landed n x.flying }) c.in_ok-input.ensures.simulation in
    asks_there hosts b n l c.requires.playing c.message_at.ensures c.place_of-place.result place_is c.land.new.self now_is c.in_ok-input.input (c.in_ok-input.ensures.input l c.message_at.ensures)

pub returns-clause-outcome : goal.returns-clause-outcome
returns-clause-outcome c = λ other also.
    let hosts = c.args.hosts.now in
    let b : Simulation = c.args.now.now in
    let n = c.args.position in
    let l = c.message_at.result.now in
    let place_is : c.place_of-place.result ≡ receiver hosts l = c.place_of-place.ensures ∙ ap (place_numbered hosts) c.goes_to.ensures in
    let now_is : c.land.new.self ≡ record b { flying = landed n b.flying } = c.land.ensures ∙ ap (λ (x : Simulation). record x { flying = landed n x.flying }) c.in_ok-input.ensures.simulation in
    subst (λ (v : StepOutcome). IfOk c.step_shown.result (λ outcome. outcome ≡ v))
    (outcome_so hosts b n l c.requires.playing c.message_at.ensures c.place_of-place.result place_is c.land.new.self now_is c.args.clock c.in_ok-input.input (c.in_ok-input.ensures.input l c.message_at.ensures) other also)
    c.step_shown.ensures.outcome

pub returns-clause-simulation : goal.returns-clause-simulation
returns-clause-simulation c = λ other also.
    let hosts = c.args.hosts.now in
    let b : Simulation = c.args.now.now in
    let n = c.args.position in
    let l = c.message_at.result.now in
    let place_is : c.place_of-place.result ≡ receiver hosts l = c.place_of-place.ensures ∙ ap (place_numbered hosts) c.goes_to.ensures in
    let now_is : c.land.new.self ≡ record b { flying = landed n b.flying } = c.land.ensures ∙ ap (λ (x : Simulation). record x { flying = landed n x.flying }) c.in_ok-input.ensures.simulation in
    subst (λ (v : Simulation). OnOk c.step_shown.result (c.step_shown.new.now ≡ v))
    (step_so hosts b n l c.requires.playing c.message_at.ensures c.place_of-place.result place_is c.land.new.self now_is c.args.clock c.in_ok-input.input (c.in_ok-input.ensures.input l c.message_at.ensures) other also)
    c.step_shown.ensures.simulation
