use Rattle.std.specs.Prelude.{is_some}
use Rattle.std.proofs.Common.{◌≡◌, ◌∙◌, Some, ap, false, sym}
use Rattle.simulated_machine.specs.Held.{Held, fault_at}
use Rattle.world_law.specs.World.{Stage}
use Rattle.rehearsal_model.specs.Simulated.{Left, calls_for, ended, fault_in, is_before, left_stopped, stop_met, written_at}
use Rattle.simulated_host.proofs.CrashLemmas.{config_left, not_met}
use Rattle.simulated_host.proofs.simulated.SimulatedHost.crash.Goals as goal

-- the call that is to fail doesn't come before the stop
pub returns-clause-simulated : goal.returns-clause-simulated
returns-clause-simulated c =
    let h : Held Stage = c.args.self in
    let left : Left = left_stopped h c.args.clock c.args.input c.args.stop in
    let later : is_before c.args.stop.call (fault_at h) ≡ false = sym (c.is_before.ensures ∙ ap (is_before c.args.stop.call) (c.in_ok-number.ensures ∙ ap (λ (x : Held Stage). fault_at x) c.self.view_is)) ∙ c.if-is_before.false in
    let met : stop_met (Some c.args.stop) (fault_in h c.args.clock c.args.input) ≡ Some c.args.stop = not_met c.args.stop (calls_for h (written_at h c.args.clock c.args.input)) (fault_at h) later in
    c.in_ok-simulated.ensures.left left (config_left h c.known.ensures c.args.clock c.args.input c.args.stop ∙ sym (c.in_ok-config.ensures ∙ c.config.ensures)) c.in_ok-disks.ensures
    ∙ sym (ap (ended h c.args.clock c.args.input) met)

pub returns-clause-stopped : goal.returns-clause-stopped
returns-clause-stopped c =
    let h : Held Stage = c.args.self in
    let later : is_before c.args.stop.call (fault_at h) ≡ false = sym (c.is_before.ensures ∙ ap (is_before c.args.stop.call) (c.in_ok-number.ensures ∙ ap (λ (x : Held Stage). fault_at x) c.self.view_is)) ∙ c.if-is_before.false in
    sym (ap is_some (not_met c.args.stop (calls_for h (written_at h c.args.clock c.args.input)) (fault_at h) later))

pub returns-clause-config : goal.returns-clause-config
returns-clause-config c = c.in_ok-simulated.ensures.config ∙ (c.in_ok-config.ensures ∙ c.config.ensures)
