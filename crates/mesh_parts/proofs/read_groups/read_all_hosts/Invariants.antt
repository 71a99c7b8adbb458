use Rattle.std.proofs.Common.{◌≡◌, map}
use Rattle.std.specs.Vec.Iter.{into_iter_items}
use Rattle.serde_json.specs.View.{view}
use Rattle.ps_json.specs.Each.{read_each, read_after}
use Rattle.mesh_parts.specs.ReadGroups.{host_in}
use Rattle.mesh_parts.proofs.read_groups.read_all_hosts.Given as goal

-- what is left decides
abbrev pub invariant-loop-value : goal.invariant-loop-value
invariant-loop-value l =
    read_each (host_in l.addresses l.name) (map view l.fn.values.items) ≡ read_after (host_in l.addresses l.name) l.hosts (map view (into_iter_items l.value-iterator))
