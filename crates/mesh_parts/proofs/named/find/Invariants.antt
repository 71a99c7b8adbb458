use Rattle.std.proofs.Common.{◌≡◌, drop}
use Rattle.mesh_parts.specs.Named.{find}
use Rattle.mesh_parts.proofs.named.find.Given as goal

-- what is left decides
abbrev pub invariant-loop-entry : goal.invariant-loop-entry
invariant-loop-entry g l = find l.name l.entries ≡ find l.name (drop l.entry-index l.entries)
