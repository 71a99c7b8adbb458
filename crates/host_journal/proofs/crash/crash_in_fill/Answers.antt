use Rattle.std.proofs.lemmas.Result.{IfOk-weaker}
use Rattle.ps_disks.specs.Disk.{written}
use Rattle.ps_disks.specs.History.{bytes_now}
use Rattle.ps_disks.specs.Images.{bytes_are_image}
use Rattle.host_journal.specs.State.{closing}
use Rattle.host_journal.proofs.CrashLemmas.{head_shut, head_written}
use Rattle.host_journal.proofs.crash.crash_in_fill.Goals as goal

pub returns-then-stop-gt5-clause-closed : goal.returns-then-stop-gt5-clause-closed
returns-then-stop-gt5-clause-closed c shut =
    let h = c.close_and_cut.new.disk.history in
    IfOk-weaker c.crash_at_gate.result _ _
    (λ left is. head_written (written 8 (closing c.args.shut) (bytes_now c.args.disk.history)) (bytes_now h) c.args.piece.now (bytes_now left.history) (c.in-Ok.ensures.images (bytes_now h) (bytes_are_image h)) is)
    (c.crash_at_gate.ensures.closed (head_shut c.args.stop c.args.image c.if-stop-gt5.true shut))
