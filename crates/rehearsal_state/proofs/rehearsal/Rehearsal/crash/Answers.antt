use Rattle.std.proofs.Common.{◌∙◌}
use Rattle.rehearsal_state.proofs.RehearsalLemmas.{outcome_so, crash_so}
use Rattle.rehearsal_state.proofs.rehearsal.Rehearsal.crash.Goals as goal

pub returns-clause-outcome : goal.returns-clause-outcome
returns-clause-outcome c =
    c.end_of.ensures ∙ outcome_so _ c.args.self.now c.self.view_is c.args.place c.args.clock c.args.input c.args.stop c.requires.stop c.in_ok-stopped.stopped c.in_ok-stopped.ensures.stopped

pub returns-clause-simulation : goal.returns-clause-simulation
returns-clause-simulation c =
    crash_so _ c.args.self.now c.self.view_is c.args.place c.args.clock c.args.input c.args.stop c.requires.stop c.crash_at.new.held_hosts.items c.in_ok-stopped.ensures.held_hosts c.disarm.new.stops.items c.disarm.ensures
