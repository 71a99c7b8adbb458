use Rattle.std.proofs.Common.{◌≡◌, subst, sym, ℕ}
use Rattle.rehearsal_model.specs.Moves.{Move}
use Rattle.rehearsal_model.specs.Simulations.{Action, Simulation, simulation_played}
use Rattle.rehearsal_generate.specs.Shown.{IsShown}
use Rattle.rehearsal_generate.specs.Work.{shows, turned}
use Rattle.rehearsal_generate.proofs.ShownLemmas.{peers, ready, shown_turned}
use Rattle.rehearsal_generate.proofs.WorkLemmas.{both_turned, ok_then}
use Rattle.rehearsal_generate.proofs.job.take_turns.Goals as goal

pub take_turn-requires-clause-ready : goal.take_turn-requires-clause-ready
take_turn-requires-clause-ready c = ready c.args.hosts.now c.args.now.now c.requires.shown c.args.place c.args.clock c.requires.place c.requires.clock

pub take_turn-requires-clause-peers : goal.take_turn-requires-clause-peers
take_turn-requires-clause-peers c = peers c.args.hosts.now c.args.now.now c.requires.shown c.args.place c.requires.place

pub take_turn-requires-2-clause-ready : goal.take_turn-requires-2-clause-ready
take_turn-requires-2-clause-ready c =
    let hosts = c.args.hosts.now in
    let b : Simulation = c.take_turn.new.now in
    ready hosts b (subst (IsShown hosts) (sym (c.in_ok-take_turn.ensures hosts)) (shown_turned hosts c.args.now.now c.requires.shown c.args.place c.args.clock c.requires.place c.requires.clock))
    c.partner_of-partner.result c.args.clock c.partner_of-partner.ensures.within c.requires.clock

pub take_turn-requires-2-clause-peers : goal.take_turn-requires-2-clause-peers
take_turn-requires-2-clause-peers c =
    let hosts = c.args.hosts.now in
    let b : Simulation = c.take_turn.new.now in
    peers hosts b (subst (IsShown hosts) (sym (c.in_ok-take_turn.ensures hosts)) (shown_turned hosts c.args.now.now c.requires.shown c.args.place c.args.clock c.requires.place c.requires.clock))
    c.partner_of-partner.result c.partner_of-partner.ensures.within

pub returns : goal.returns
returns c =
    let hosts = c.args.hosts.now in
    let place : ℕ = c.args.place in
    let clock : ℕ = c.args.clock in
    let partner : ℕ = c.partner_of-partner.result in
    let b : Simulation = c.args.now.now in
    let b1 : Simulation = c.take_turn.new.now in
    let b2 : Simulation = c.take_turn-2.new.now in
    ok_then (b2 ≡ simulation_played hosts b1 clock (Action.Does (Move.Turns partner clock))) (b2 ≡ turned (shows hosts) place clock b) c.take_turn-2.result (c.take_turn-2.ensures hosts)
    (both_turned hosts place partner clock b b1 b2 (c.in_ok-take_turn.ensures hosts) c.partner_of-partner.ensures.partner)
