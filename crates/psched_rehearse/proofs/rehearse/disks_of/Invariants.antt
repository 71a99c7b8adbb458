use Rattle.std.proofs.Common.{◌++◌, List}
use Rattle.std.specs.Vec.Iter.{into_iter_items}
use Rattle.ps_disks.specs.MemoryDisk.{DiskState}
use Rattle.rehearsal_lines.specs.Kept.{AreKeptOn}
use Rattle.psched_rehearse.proofs.rehearse.disks_of.Given as goal

-- with those of the hosts that are left they are those of all
abbrev pub invariant-loop-held_host : goal.invariant-loop-held_host
invariant-loop-held_host l = record {
  can_next : (goal.iterator-loop-held_host).can_next l.held_host-iterator;
  is_finite : (goal.iterator-loop-held_host).is_finite l.held_host-iterator;
  kept : (more : List (DiskState × DiskState)) → AreKeptOn (into_iter_items l.held_host-iterator) more → AreKeptOn l.fn.held_hosts.items (l.disks.items ++ more);
}
