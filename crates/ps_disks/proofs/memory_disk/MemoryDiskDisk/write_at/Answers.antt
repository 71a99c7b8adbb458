use Rattle.std.proofs.Common.{◌≡◌, rules, subst}
use Rattle.ps_disks.specs.MemoryDisk.{Makes}
use Rattle.ps_disks.proofs.MemoryDiskLemmas.{makes_part, makes_follows, makes_done}
use Rattle.ps_disks.proofs.RunLemmas.{calls_advance_made, calls_advance_starved}
use Rattle.ps_disks.specs.declared.disk.DiskCall.TheVariants.{Write}
use Rattle.ps_disks.proofs.memory_disk.MemoryDiskDisk.write_at.Goals as goal

makes : (c : goal.After-make) → Makes (Write c.args.at c.args.bytes.now) c.args.self.now c.make.new.self c.make.result
makes c =
    let same : c.from_vec.result ≡ c.args.bytes.now = search rules in
    subst (λ bytes. Makes (Write c.args.at bytes) c.args.self.now c.make.new.self c.make.result) same c.make.ensures.makes

pub returns-in-Ok-clause-written : goal.returns-in-Ok-clause-written
returns-in-Ok-clause-written c = makes_done (Write c.args.at c.args.bytes.now) c.args.self.now c.make.new.self c.make.result (makes c)

pub returns-in-Ok-clause-part : goal.returns-in-Ok-clause-part
returns-in-Ok-clause-part c = makes_part (Write c.args.at c.args.bytes.now) c.args.self.now c.make.new.self c.make.result (makes c)

pub returns-in-Ok-clause-crash : goal.returns-in-Ok-clause-crash
returns-in-Ok-clause-crash c = makes_follows (Write c.args.at c.args.bytes.now) c.args.self.now c.make.new.self c.make.result (makes c)

pub returns-in-Ok-clause-calls_advance : goal.returns-in-Ok-clause-calls_advance
returns-in-Ok-clause-calls_advance c = calls_advance_made (Write c.args.at c.args.bytes.now) c.args.self.now c.make.new.self c.make.result (makes c)

pub returns-in-Err-clause-calls_advance : goal.returns-in-Err-clause-calls_advance
returns-in-Err-clause-calls_advance c = calls_advance_starved c.args.self.now c.starve.new.self c.starve.ensures.after
