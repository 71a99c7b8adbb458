use Rattle.std.proofs.Common.{◌≡◌, IfOk, subst}
use Rattle.std.proofs.lemmas.Result.{on_ok_weaker}
use Rattle.simulated_machine.specs.Held.{Held}
use Rattle.world_law.specs.World.{Stage}
use Rattle.rehearsal_model.specs.Simulated.{answered}
use Rattle.rehearsal_state.proofs.RehearsalLemmas.{act_so, held_host_so}
use Rattle.rehearsal_state.proofs.rehearsal.Rehearsal.act.Goals as goal

-- the host at the place
pub returns-clause-reply : goal.returns-clause-reply
returns-clause-reply c =
    let s = c.index_mut-held_host.result.now in
    let is = held_host_so _ c.args.self.now c.self.view_is c.args.place c.requires.ready.there s c.index_mut-held_host.ensures.value in
    subst (λ (h : Held Stage). IfOk c.act.result (λ reply. reply ≡ answered h c.args.clock c.args.input)) is c.act.ensures.reply

pub returns-clause-simulation : goal.returns-clause-simulation
returns-clause-simulation c =
    let s = c.index_mut-held_host.result.now in
    let is = held_host_so _ c.args.self.now c.self.view_is c.args.place c.requires.ready.there s c.index_mut-held_host.ensures.value in
    on_ok_weaker c.act.result (act_so _ c.args.self.now c.self.view_is c.args.place s c.act.new.self is c.args.clock c.args.input) c.act.ensures.simulated
