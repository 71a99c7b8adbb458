use Rattle.std.proofs.Common.{◌≡◌, ◌++◌, drop, map}
use Rattle.rehearsal_generate.specs.Work.{host_numbers, host_of}
use Rattle.rehearsal_generate.proofs.hosts.work_hosts.Given as goal

-- those of the numbers that are left are still to come
abbrev pub invariant-loop-number : goal.invariant-loop-number
invariant-loop-number l = map host_of host_numbers ≡ l.hosts.items ++ map host_of (drop l.number-index l.number-items)
