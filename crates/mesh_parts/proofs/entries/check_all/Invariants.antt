use Rattle.std.proofs.Common.{◌≡◌}
use Rattle.std.specs.Vec.Iter.{into_iter_items}
use Rattle.mesh_parts.specs.Entries.{object_in}
use Rattle.mesh_parts.specs.Named.{read_named, read_from}
use Rattle.mesh_parts.proofs.entries.check_all.Given as goal

-- what is left decides
abbrev pub invariant-loop-entry : goal.invariant-loop-entry
invariant-loop-entry l = read_named object_in l.fn.entries.items ≡ read_from object_in l.objects (into_iter_items l.entry-iterator)
