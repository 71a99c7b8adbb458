use Rattle.std.proofs.Common.{sym, subst}
use Rattle.ps_disks.specs.History.{IsImage}
use Rattle.ps_disks.proofs.MemoryDiskLemmas.{makes_part, makes_follows, sync_makes}
use Rattle.ps_disks.proofs.RunLemmas.{calls_advance_made}
use Rattle.ps_disks.specs.declared.disk.DiskCall.TheVariants.{Sync}
use Rattle.ps_disks.proofs.memory_disk.MemoryDiskDisk.sync.Goals as goal

pub returns-clause-durable : goal.returns-clause-durable
returns-clause-durable c = sync_makes c.args.self.now c.make.new.self c.make.result c.make.ensures.makes

pub returns-clause-seen : goal.returns-clause-seen
returns-clause-seen c = makes_part Sync c.args.self.now c.make.new.self c.make.result c.make.ensures.makes

pub returns-clause-crash : goal.returns-clause-crash
returns-clause-crash c image left =
    let from = makes_follows Sync c.args.self.now c.make.new.self c.make.result c.make.ensures.makes image left in
    subst (IsImage c.args.self.now.history) (sym from.2) from.1

pub returns-clause-calls_advance : goal.returns-clause-calls_advance
returns-clause-calls_advance c = calls_advance_made Sync c.args.self.now c.make.new.self c.make.result c.make.ensures.makes
