use Rattle.std.specs.Prelude.{is_some}
use Rattle.std.proofs.Common.{◌<◌, ◌≡◌, ◌∙◌, None, Some, ap, subst, sym}
use Rattle.host_journal.specs.Pair.{pair_of}
use Rattle.host_keep.specs.Standing.{Seen, after}
use Rattle.host_model.specs.Step.{step_reply}
use Rattle.simulated_machine.specs.Held.{Held, fault_at}
use Rattle.simulated_machine.specs.IsHeld.{held}
use Rattle.ps_disks.specs.History.{bytes_now}
use Rattle.world_law.specs.World.{Stage}
use Rattle.rehearsal_model.proofs.SimulationLemmas.{unfailed}
use Rattle.rehearsal_model.specs.Simulated.{Left, calls_for, done, ended, fault_in, left_stopped, stepped_by, stop_met, written_at}
use Rattle.simulated_host.specs.Staged.{IsLeft, staged}
use Rattle.simulated_host.proofs.CrashLemmas.{left_now, made_before, made_left, none_met, now_left}
use Rattle.simulated_host.proofs.simulated.SimulatedHost.crash_unless_fault.Goals as goal

-- the step met the fault
pub returns-in_default-clause-simulated : goal.returns-in_default-clause-simulated
returns-in_default-clause-simulated c =
    let h : Held Stage = c.args.self in
    c.in_ok-reply.ensures.simulated
    ∙ sym (ap (ended h c.args.clock c.args.input) (none_met c.args.stop (calls_for h (written_at h c.args.clock c.args.input)) (fault_at h) (step_reply h.state.config h.state.book c.args.clock c.args.input) c.requires.before
    (sym c.in_default.is ∙ c.in_ok-reply.ensures.reply)))

pub returns-in_default-clause-stopped : goal.returns-in_default-clause-stopped
returns-in_default-clause-stopped c =
    let h : Held Stage = c.args.self in
    sym (ap is_some (none_met c.args.stop (calls_for h (written_at h c.args.clock c.args.input)) (fault_at h) (step_reply h.state.config h.state.book c.args.clock c.args.input) c.requires.before
    (sym c.in_default.is ∙ c.in_ok-reply.ensures.reply)))

-- all its calls were made: it stops behind the last one
pub returns-clause-simulated : goal.returns-clause-simulated
returns-clause-simulated c =
    let h : Held Stage = c.args.self in
    let clock = c.args.clock in
    let i = c.args.input in
    let stop = c.args.stop in
    let none : fault_in h clock i ≡ None = (unfailed (fault_in h clock i) (step_reply h.state.config h.state.book clock i) c.in-Some.reply (sym c.in_ok-reply.ensures.reply ∙ c.in-Some.is)).0 in
    let behind : calls_for h (written_at h clock i) < stop.call = made_before stop.call (calls_for h (written_at h clock i)) (fault_at h) c.requires.before none in
    let left : Left = left_stopped h clock i stop in
    let made : staged (held (λ (m : Seen). m.standing) after c.into_simulated.result) ≡ done h clock i = c.into_simulated.ensures ∙ (c.in_ok-reply.ensures.simulated ∙ ap (stepped_by h clock i) none) in
    let same : left_now (staged (held (λ (m : Seen). m.standing) after c.into_simulated.result)) stop.image ≡ left = ap (λ (x : Held Stage). left_now x stop.image) made ∙ made_left h clock i stop behind in
    let stands : IsLeft left (pair_of (bytes_now c.in_ok-disks.disks.0.history) (bytes_now c.in_ok-disks.disks.1.history)) =
    subst (λ (x : Left). IsLeft x (pair_of (bytes_now c.in_ok-disks.disks.0.history) (bytes_now c.in_ok-disks.disks.1.history))) same
    (now_left (held (λ (m : Seen). m.standing) after c.into_simulated.result) stop.image _ c.in_ok-disks.ensures.left) in
    c.in_ok-simulated.ensures.left left
    (ap (λ (x : Left). x.state.config) (sym (made_left h clock i stop behind)) ∙ sym (c.in_ok-config.ensures ∙ (c.config.ensures ∙ c.in_ok-reply.ensures.config))) stands
    ∙ sym (ap (λ o. ended h clock i (stop_met (Some stop) o)) none)

pub returns-clause-stopped : goal.returns-clause-stopped
returns-clause-stopped c =
    let h : Held Stage = c.args.self in
    let none : fault_in h c.args.clock c.args.input ≡ None = (unfailed (fault_in h c.args.clock c.args.input) (step_reply h.state.config h.state.book c.args.clock c.args.input) c.in-Some.reply (sym c.in_ok-reply.ensures.reply ∙ c.in-Some.is)).0 in
    sym (ap (λ o. is_some (stop_met (Some c.args.stop) o)) none)
