use Rattle.std.proofs.Common.{◌<◌, ◌∙◌, ap, length, subst, sym}
use Rattle.rehearsal_model.specs.Simulations.{Simulation, config_of}
use Rattle.rehearsal_state.proofs.MoveLemmas.{asked, config_then, there_then}
use Rattle.rehearsal_lines.proofs.ask.ask.Goals as goal

-- an answered step leaves as many hosts, and the host its configuration
pub returns-clause-there : goal.returns-clause-there
returns-clause-there c = λ reply e.
    subst (λ (x : Simulation). c.args.place < length x.held_hosts) (sym c.in_ok-outcome.ensures.simulation)
    (there_then c.args.now.now c.args.place c.args.clock c.args.input reply (sym c.in_ok-outcome.ensures.outcome ∙ e) c.requires.ready.there)

pub returns-clause-config : goal.returns-clause-config
returns-clause-config c = λ reply e.
    ap (λ (x : Simulation). config_of x c.args.place) c.in_ok-outcome.ensures.simulation
    ∙ sym (config_then c.args.now.now c.args.place c.args.clock c.args.input reply (sym c.in_ok-outcome.ensures.outcome ∙ e) c.requires.ready.there)

pub returns-clause-simulation : goal.returns-clause-simulation
returns-clause-simulation c = λ hosts. c.in_ok-outcome.ensures.simulation ∙ asked hosts c.args.now.now c.args.place c.args.clock c.args.input
