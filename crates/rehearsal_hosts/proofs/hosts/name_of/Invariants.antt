use Rattle.std.proofs.Common.{◌≡◌, drop}
use Rattle.rehearsal_model.specs.Hosts.{host_numbered}
use Rattle.rehearsal_hosts.proofs.hosts.name_of.Given as goal

-- what is left decides
abbrev pub invariant-loop-host : goal.invariant-loop-host
invariant-loop-host l = host_numbered (drop l.host-index l.hosts) l.number ≡ host_numbered l.hosts l.number
