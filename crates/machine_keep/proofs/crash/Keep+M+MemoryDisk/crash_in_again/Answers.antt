use Rattle.std.proofs.Common.{◌-◌, subst}
use Rattle.std.proofs.lemmas.Result.{IfOk-weaker}
use Rattle.ps_disks.specs.History.{bytes_now}
use Rattle.host_journal.specs.Pair.{pair_of}
use Rattle.machine_keep.specs.Crash.{LeftOfStep}
use Rattle.machine_keep.proofs.crash.Keep+M+MemoryDisk.crash_in_again.Goals as goal

pub returns-then-stop-gt2-clause-kept : goal.returns-then-stop-gt2-clause-kept
returns-then-stop-gt2-clause-kept g c _ =
    IfOk-weaker c.crash_in.result _ _
    (λ disks kept. subst (λ s. LeftOfStep g.M.Machine.stands_for g.M.Machine.answers g.M.Machine.after s c.args.call (c.args.stop - 2) c.args.image (pair_of (bytes_now disks.0.history) (bytes_now disks.1.history))) (c.in-Ok.ensures.state tt) kept)
    c.crash_in.ensures.kept
