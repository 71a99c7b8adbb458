use Rattle.host_journal.specs.State.{append_calls}
use Rattle.machine_keep.proofs.CourseLemmas.{counting_some, counting_told}
use Rattle.machine_keep.proofs.keep.append.Goals as goal

pub returns-in-Ok-clause-told : goal.returns-in-Ok-clause-told
returns-in-Ok-clause-told g c =
    counting_told g.D.Disk.told c.args.journal.now c.append.new.self c.append.ensures.kept c.append.ensures.other (append_calls c.args.journal.now.end c.args.bytes.now) c.in-Ok.ensures.told

pub returns-in-Err-clause-told_first : goal.returns-in-Err-clause-told_first
returns-in-Err-clause-told_first g c =
    counting_some g.D.Disk.told g.D.Disk.disk_faults g.D.Disk.calls_advance g.met.D.Disk.calls_advance_refl g.met.D.Disk.calls_advance_trans c.args.journal.now c.append.new.self c.append.ensures.kept c.append.ensures.other (append_calls c.args.journal.now.end c.args.bytes.now) c.in-Err.ensures.told_first
