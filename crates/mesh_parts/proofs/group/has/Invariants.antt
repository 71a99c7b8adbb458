use Rattle.std.proofs.Common.{◌≡◌, drop}
use Rattle.mesh_parts.specs.Group.{has}
use Rattle.mesh_parts.proofs.group.has.Given as goal

-- what is left decides
abbrev pub invariant-loop-other : goal.invariant-loop-other
invariant-loop-other l = has l.names l.name ≡ has (drop l.other-index l.names) l.name
