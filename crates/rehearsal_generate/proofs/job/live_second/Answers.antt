use Rattle.std.proofs.Common.{◌≡◌, subst, sym, ℕ}
use Rattle.rehearsal_model.specs.Simulations.{Simulation}
use Rattle.rehearsal_generate.specs.Shown.{IsShown}
use Rattle.rehearsal_generate.specs.Work.{flown, second, shows}
use Rattle.rehearsal_generate.specs.declared.tally.Tally.{Tally}
use Rattle.rehearsal_generate.proofs.ShownLemmas.{shown_flown, shown_turns}
use Rattle.rehearsal_generate.proofs.WorkLemmas.{ok_then, second_is}
use Rattle.rehearsal_generate.proofs.job.live_second.Goals as goal

pub fly-requires-clause-shown : goal.fly-requires-clause-shown
fly-requires-clause-shown c =
    let hosts = c.args.hosts.now in
    subst (IsShown hosts) (sym c.in_ok-take_turns.ensures) (shown_turns hosts c.args.now.now c.requires.shown c.args.place c.args.clock c.requires.place c.requires.clock)

pub fly-requires-2-clause-shown : goal.fly-requires-2-clause-shown
fly-requires-2-clause-shown c =
    let hosts = c.args.hosts.now in
    let b : Simulation = c.take_turns.new.now in
    let shown : IsShown hosts b = subst (IsShown hosts) (sym c.in_ok-take_turns.ensures) (shown_turns hosts c.args.now.now c.requires.shown c.args.place c.args.clock c.requires.place c.requires.clock) in
    subst (λ (x : Simulation × Tally). IsShown hosts x.0) (sym c.in_ok-fly.ensures) (shown_flown hosts b shown c.args.place c.args.clock c.requires.place c.requires.clock c.args.tally.now)

pub returns : goal.returns
returns c =
    let hosts = c.args.hosts.now in
    let place : ℕ = c.args.place in
    let clock : ℕ = c.args.clock in
    let b : Simulation = c.args.now.now in
    let t : Tally = c.args.tally.now in
    let b1 : Simulation = c.take_turns.new.now in
    let x : Simulation × Tally = (c.fly.new.now, c.fly.new.tally) in
    let y : Simulation × Tally = (c.fly-2.new.now, c.fly-2.new.tally) in
    ok_then (y ≡ flown (shows hosts) place clock x) (y ≡ second (shows hosts) place clock (b, t)) c.fly-2.result c.fly-2.ensures
    (second_is hosts place clock b b1 t x y c.in_ok-take_turns.ensures c.in_ok-fly.ensures)
