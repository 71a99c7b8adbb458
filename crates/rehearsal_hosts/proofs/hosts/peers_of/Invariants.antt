use Rattle.std.proofs.Common.{◌≡◌, ◌++◌, drop, map}
use Rattle.rehearsal_model.specs.Hosts.{others_of, peer_of}
use Rattle.rehearsal_hosts.proofs.hosts.peers_of.Given as goal

-- those of the hosts that are left are still to come
abbrev pub invariant-loop-host : goal.invariant-loop-host
invariant-loop-host l =
    map peer_of (others_of l.hosts l.number) ≡ l.peers ++ map peer_of (others_of (drop l.host-index l.hosts) l.number)
