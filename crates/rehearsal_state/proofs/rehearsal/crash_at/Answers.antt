use Rattle.std.specs.Prelude.{Some, is_some, set, slice_index_or}
use Rattle.std.proofs.Common.{◌≡◌, ◌∙◌, List, ap, subst, sym}
use Rattle.std.specs.List.{insert}
use Rattle.host_model.specs.Conditions.{IsConfig, IsInput}
use Rattle.simulated_machine.specs.Held.{Held}
use Rattle.world_law.specs.World.{Stage}
use Rattle.rehearsal_model.specs.Simulated.{ended_at, fault_in, stop_met}
use Rattle.rehearsal_model.specs.Simulations.{nobody_held}
use Rattle.rehearsal_state.proofs.RehearsalLemmas.{put_back, read_any}
use Rattle.rehearsal_state.proofs.rehearsal.crash_at.Goals as goal

-- the host that is taken out is the one at the place
pub crash-requires-clause-config : goal.crash-requires-clause-config
crash-requires-clause-config c =
    subst (λ (x : Held Stage). IsConfig x.state.config) (sym (c.remove-held_host.ensures.value ∙ read_any _ c.args.place c.remove-held_host.result nobody_held c.requires.place)) c.requires.config

pub crash-requires-clause-input : goal.crash-requires-clause-input
crash-requires-clause-input c =
    subst (λ (x : Held Stage). IsInput x.state.config c.args.input) (sym (c.remove-held_host.ensures.value ∙ read_any _ c.args.place c.remove-held_host.result nobody_held c.requires.place)) c.requires.input

pub returns-clause-stopped : goal.returns-clause-stopped
returns-clause-stopped c =
    let is : c.remove-held_host.result ≡ slice_index_or c.args.held_hosts.now.items c.args.place nobody_held = c.remove-held_host.ensures.value ∙ read_any _ c.args.place c.remove-held_host.result nobody_held c.requires.place in
    c.in_ok-ended.ensures.stopped ∙ ap (λ (x : Held Stage). is_some (stop_met (Some c.args.stop) (fault_in x c.args.clock c.args.input))) is

pub returns-clause-held_hosts : goal.returns-clause-held_hosts
returns-clause-held_hosts c =
    let xs : List (Held Stage) = c.args.held_hosts.now.items in
    let place = c.args.place in
    let at : Held Stage = slice_index_or xs place nobody_held in
    let back : Held Stage = c.in_ok-ended.ended.0 in
    let is : c.remove-held_host.result ≡ at = c.remove-held_host.ensures.value ∙ read_any xs place c.remove-held_host.result nobody_held c.requires.place in
    let made : back ≡ ended_at at c.args.clock c.args.input c.args.stop = c.in_ok-ended.ensures.simulated ∙ ap (λ (x : Held Stage). ended_at x c.args.clock c.args.input c.args.stop) is in
    c.in_ok-insert.ensures.items
    ∙ (ap (λ (ys : List (Held Stage)). insert ys place back) c.remove-held_host.ensures.items
    ∙ (put_back xs place back c.requires.place
    ∙ ap (λ (x : Held Stage). set xs place x) made))
