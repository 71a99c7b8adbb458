use Rattle.std.proofs.Common.{◌≡◌, ◌++◌, drop}
use Rattle.mesh_parts.specs.Group.{joined}
use Rattle.mesh_parts.specs.Named.{names_of}
use Rattle.mesh_parts.proofs.group.Group.push_joined.Given as goal

-- the pairs so far, and those of what is left
abbrev pub invariant-loop-host : goal.invariant-loop-host
invariant-loop-host g l =
    l.initial.pairs.items ++ joined l.self (names_of l.hosts) l.first ≡ l.pairs.items ++ joined l.self (names_of (drop l.host-index l.hosts)) l.first
