use Rattle.std.proofs.lemmas.Result.{IfErr-weaker}
use Rattle.host_journal.proofs.ToldLemmas.{behind_ordered}
use Rattle.host_journal.proofs.reload.find_stood.Goals as goal

pub returns-clause-told_err : goal.returns-clause-told_err
returns-clause-told_err g c =
    IfErr-weaker c.look_at_gate.result _ _
    (λ _ rose. behind_ordered g.D.Disk.told g.D.Disk.disk_faults g.D.Disk.calls_advance g.met.D.Disk.calls_advance_refl g.met.D.Disk.calls_advance_trans c.args.second c.args.counting.now c.args.other.now c.sync_in_order.new.counting c.sync_in_order.new.other c.look_at_gate.new.counting c.look_at_gate.new.other
    (record { told = c.in_ok-sync_in_order.ensures.told; no_fault = c.in_ok-sync_in_order.ensures.no_fault.0; calls_advance = c.sync_in_order.ensures.calls_advance })
    (record { told = c.in_ok-sync_in_order.ensures.told_other; no_fault = c.in_ok-sync_in_order.ensures.no_fault.1; calls_advance = c.sync_in_order.ensures.calls_advance_other })
    c.look_at_gate.ensures.told c.look_at_gate.ensures.told_other rose c.look_at_gate.ensures.calls_advance c.look_at_gate.ensures.calls_advance_other)
    c.look_at_gate.ensures.cause
