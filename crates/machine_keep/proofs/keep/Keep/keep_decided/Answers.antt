use Rattle.host_journal.specs.State.{stored}
use Rattle.machine_keep.proofs.KeepLemmas.{adds_decided}
use Rattle.machine_keep.proofs.keep.Keep.keep_decided.Goals as goal

pub returns-in_ok-keep-in-Some-clause-adds : goal.returns-in_ok-keep-in-Some-clause-adds
returns-in_ok-keep-in-Some-clause-adds g c p =
    adds_decided g.D.Disk.moment g.D.Disk.left_since g.M.Machine.stands_for (g.M.Machine.after (g.M.Machine.state c.args.self.now.machine)) c.args.self.now.journal c.keep.new.self.journal
    (stored g.D.Disk.seen c.args.self.now.journal) c.args.decided.step c.in-Some.step c.in-Some.is (c.keep.ensures.adds p)
