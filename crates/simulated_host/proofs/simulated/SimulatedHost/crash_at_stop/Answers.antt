use Rattle.std.specs.Prelude.{IfOk}
use Rattle.host_journal.specs.Pair.{pair_of}
use Rattle.host_keep.specs.Standing.{Seen, after}
use Rattle.simulated_machine.specs.IsHeld.{held}
use Rattle.ps_disks.specs.History.{bytes_now}
use Rattle.host_keep.specs.declared.call.HostCall.{HostCall}
use Rattle.rehearsal_model.specs.Simulated.{left_stopped}
use Rattle.simulated_host.specs.Staged.{IsLeft}
use Rattle.simulated_host.proofs.CrashLemmas.{crash_stopped}
use Rattle.simulated_host.proofs.simulated.SimulatedHost.crash_at_stop.Goals as goal
use Rattle.std.proofs.Common.{subst}

pub returns : goal.returns
returns c =
    let call : HostCall = record { clock = c.args.clock; input = c.args.input } in
    subst (λ x. IfOk c.crash.result (λ d. IsLeft (left_stopped x c.args.clock c.args.input c.args.stop) (pair_of (bytes_now d.0.history) (bytes_now d.1.history)))) c.self.view_is
    (crash_stopped (held (λ (m : Seen). m.standing) after c.self.inside.simulated) call c.args.stop c.crash.result _ c.fail_at.ensures c.crash.ensures.sync_failed c.crash.ensures.stops)
