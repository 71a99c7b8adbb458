use Rattle.std.proofs.Common.{◌≡◌}
use Rattle.std.specs.Vec.Iter.{into_iter_items}
use Rattle.mesh_parts.specs.Named.{read_named, read_from}
use Rattle.mesh_parts.specs.ReadGroups.{group_in}
use Rattle.mesh_parts.proofs.read_groups.read_all_groups.Given as goal

-- what is left decides
abbrev pub invariant-loop-entry : goal.invariant-loop-entry
invariant-loop-entry l = read_named (group_in l.addresses) l.fn.entries.items ≡ read_from (group_in l.addresses) l.groups (into_iter_items l.entry-iterator)
