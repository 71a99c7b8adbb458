use Rattle.std.proofs.Common.{◌≡◌, map, take}
use Rattle.rehearsal_model.specs.Hosts.{first_config}
use Rattle.rehearsal_model.specs.Simulated.{opened_anew}
use Rattle.psched_rehearse.proofs.rehearse.open_hosts.Given as goal

-- those so far are open
abbrev pub invariant-loop-host : goal.invariant-loop-host
invariant-loop-host l = l.held_hosts.items ≡ map (λ host. opened_anew (first_config l.hosts host)) (take l.host-index l.hosts)
