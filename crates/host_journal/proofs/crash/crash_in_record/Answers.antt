use Rattle.std.proofs.Common.{◌+◌, length, subst, sym}
use Rattle.std.proofs.lemmas.Result.{IfOk-weaker}
use Rattle.ps_disks.specs.Disk.{Torn}
use Rattle.ps_disks.specs.History.{bytes_now}
use Rattle.ps_disks.specs.Images.{bytes_are_image, written_is_torn}
use Rattle.host_journal.proofs.CrashLemmas.{shut_late}
use Rattle.host_journal.proofs.crash.crash_in_record.Goals as goal

pub returns-then-stop-gt2-clause-closed : goal.returns-then-stop-gt2-clause-closed
returns-then-stop-gt2-clause-closed c shut =
    let h = c.args.disk.history in
    IfOk-weaker c.crash_at_gate.result _ _ (λ left is. (bytes_now h, bytes_are_image h, subst (Torn (c.args.end + 1) (length c.args.piece.now) (bytes_now h)) (sym is) (written_is_torn (c.args.end + 1) c.args.piece.now (bytes_now h))))
    (c.crash_at_gate.ensures.closed (shut_late c.args.stop c.args.image c.if-stop-gt2.true shut))
