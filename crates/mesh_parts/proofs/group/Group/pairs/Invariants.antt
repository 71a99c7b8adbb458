use Rattle.std.proofs.Common.{◌≡◌, ◌++◌, drop, flat_map}
use Rattle.mesh_parts.specs.Group.{pairs_at, pairs_of}
use Rattle.mesh_parts.specs.Named.{names_of}
use Rattle.mesh_parts.proofs.group.Group.pairs.Given as goal

-- the pairs so far, and those of what is left
abbrev pub invariant-loop-host : goal.invariant-loop-host
invariant-loop-host g l =
    pairs_of (names_of l.hosts) l.self ≡ l.pairs.items ++ flat_map (pairs_at l.self (names_of l.hosts)) (names_of (drop l.host-index l.hosts))
