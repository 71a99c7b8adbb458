use Rattle.std.proofs.Common.{◌≡◌, drop}
use Rattle.rehearsal_script.specs.Line.{is_repeated}
use Rattle.rehearsal_script.proofs.hosts.is_used.Given as goal

-- what is left decides
abbrev pub invariant-loop-host : goal.invariant-loop-host
invariant-loop-host l = is_repeated l.hosts l.name l.number ≡ is_repeated (drop l.host-index l.hosts) l.name l.number
