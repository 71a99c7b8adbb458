use Rattle.std.proofs.Common.{◌≡◌, ◌-◌, ◌<◌, ◌^◌}
use Rattle.host_journal.specs.Calls.{IsRead}
use Rattle.host_journal.proofs.disk_calls.bound_of.Given as goal

abbrev pub invariant-loop-twice : goal.invariant-loop-twice
invariant-loop-twice g l = record {
  read : g.D.Disk.premise → IsRead g.D.Disk.seen g.D.Disk.may_leave g.D.Disk.moment g.D.Disk.left_since l.fn.disk l.disk;
  calls_advance : g.D.Disk.calls_advance l.fn.disk l.disk;
  told : g.D.Disk.told l.disk ≡ g.D.Disk.told l.fn.disk;
  no_fault : g.D.Disk.disk_faults l.disk ≡ g.D.Disk.disk_faults l.fn.disk;
  some : 0 < l.bound;
}

abbrev pub decreases-loop-twice : goal.decreases-loop-twice
decreases-loop-twice g l = 2 ^ 64 - l.bound
