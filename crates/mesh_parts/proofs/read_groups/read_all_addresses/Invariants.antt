use Rattle.std.proofs.Common.{◌≡◌, ◌++◌}
use Rattle.std.specs.Vec.Iter.{into_iter_items}
use Rattle.mesh_parts.specs.Named.{names_of, read_named, read_from}
use Rattle.mesh_parts.specs.ReadGroups.{address_in}
use Rattle.mesh_parts.proofs.read_groups.read_all_addresses.Given as goal

-- what is left decides
abbrev pub invariant-loop-entry : goal.invariant-loop-entry
invariant-loop-entry l = record {
  decides : read_named address_in l.fn.entries.items ≡ read_from address_in l.addresses (into_iter_items l.entry-iterator);
  names : names_of l.addresses ++ names_of (into_iter_items l.entry-iterator) ≡ names_of l.fn.entries.items;
}
