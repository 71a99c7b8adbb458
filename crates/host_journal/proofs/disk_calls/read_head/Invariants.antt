use Rattle.std.proofs.Common.{◌≡◌, ◌≤◌, ◌-◌, length, take}
use Rattle.host_journal.specs.Calls.{IsRead}
use Rattle.host_journal.proofs.CallLemmas.{ReadSoFar}
use Rattle.host_journal.proofs.disk_calls.read_head.Given as goal

abbrev pub invariant-loop-count : goal.invariant-loop-count
invariant-loop-count g l = record {
  read : g.D.Disk.premise → IsRead g.D.Disk.seen g.D.Disk.may_leave g.D.Disk.moment g.D.Disk.left_since l.fn.disk l.disk;
  so_far : g.D.Disk.premise → ReadSoFar (g.D.Disk.seen l.fn.disk) (take l.count l.head);
  calls_advance : g.D.Disk.calls_advance l.fn.disk l.disk;
  told : g.D.Disk.told l.disk ≡ g.D.Disk.told l.fn.disk;
  no_fault : g.D.Disk.disk_faults l.disk ≡ g.D.Disk.disk_faults l.fn.disk;
  within : l.count ≤ length l.head;
  same : length l.head ≡ length l.fn.head;
}

abbrev pub decreases-loop-count : goal.decreases-loop-count
decreases-loop-count g l = length l.head - l.count
