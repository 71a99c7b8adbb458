use Rattle.ps_disks.proofs.MemoryDiskLemmas.{makes_part, makes_follows, makes_done}
use Rattle.ps_disks.proofs.RunLemmas.{calls_advance_made}
use Rattle.ps_disks.specs.declared.disk.DiskCall.TheVariants.{Cut}
use Rattle.ps_disks.proofs.memory_disk.MemoryDiskDisk.cut.Goals as goal

pub returns-clause-cut : goal.returns-clause-cut
returns-clause-cut c = makes_done (Cut c.args.len) c.args.self.now c.make.new.self c.make.result c.make.ensures.makes

pub returns-clause-part : goal.returns-clause-part
returns-clause-part c = makes_part (Cut c.args.len) c.args.self.now c.make.new.self c.make.result c.make.ensures.makes

pub returns-clause-crash : goal.returns-clause-crash
returns-clause-crash c = makes_follows (Cut c.args.len) c.args.self.now c.make.new.self c.make.result c.make.ensures.makes

pub returns-clause-calls_advance : goal.returns-clause-calls_advance
returns-clause-calls_advance c = calls_advance_made (Cut c.args.len) c.args.self.now c.make.new.self c.make.result c.make.ensures.makes
