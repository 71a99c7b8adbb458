use Rattle.std.proofs.Common.{◌+◌, ◌∙◌}
use Rattle.std.proofs.lemmas.Result.{IfOk-weaker}
use Rattle.ps_disks.specs.Disk.{written}
use Rattle.ps_disks.specs.History.{bytes_now}
use Rattle.host_journal.proofs.CrashLemmas.{gate_closed, gate_open}
use Rattle.host_journal.proofs.crash.crash_at_gate.Goals as goal

pub returns-clause-closed : goal.returns-clause-closed
returns-clause-closed c drops =
    let bytes = written (c.args.end + 1) c.args.piece.now (bytes_now c.args.disk.history) in
    IfOk-weaker c.crash_now.result _ _ (λ left is. is ∙ gate_closed c.write_to_gate.new.disk.history bytes c.args.end c.in-Ok.ensures c.args.image drops) c.crash_now.ensures.bytes

pub returns-clause-opened : goal.returns-clause-opened
returns-clause-opened c keeps =
    let bytes = written (c.args.end + 1) c.args.piece.now (bytes_now c.args.disk.history) in
    IfOk-weaker c.crash_now.result _ _ (λ left is. is ∙ gate_open c.write_to_gate.new.disk.history bytes c.args.end c.in-Ok.ensures c.args.image keeps) c.crash_now.ensures.bytes
