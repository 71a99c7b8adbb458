use Rattle.std.proofs.Common.{◌∙◌, ap}
use Rattle.std.specs.Prelude.{nat_lt}
use Rattle.ps_disks.specs.History.{bytes_now}
use Rattle.ps_disks.specs.MemoryDisk.{DiskState}
use Rattle.host_journal.specs.Pair.{pair_of}
use Rattle.host_journal.specs.State.{first_disk}
use Rattle.machine_keep.proofs.CrashLemmas.{new_reads, reads_so}
use Rattle.machine_keep.proofs.crash.Keep+M+MemoryDisk.crash_in_syncs.Goals as goal

pub returns-clause-reads : goal.returns-clause-reads
returns-clause-reads g c is =
    let disks = c.into_disks-first in
    ap (λ b. pair_of b (bytes_now c.in_ok-second.second.history))
    (reads_so c.args.image (nat_lt 1 c.args.stop) disks.result.0.history (bytes_now c.in_ok-first.first.history) is c.in_ok-first.ensures.bytes ∙ ap (λ (d : DiskState). bytes_now d.history) disks.ensures.first)
    ∙ ap (pair_of (bytes_now (first_disk c.args.self.journal).history))
    (c.in_ok-second.ensures.bytes ∙ new_reads c.args.image disks.result.1.history is ∙ ap (λ (d : DiskState). bytes_now d.history) disks.ensures.second)
