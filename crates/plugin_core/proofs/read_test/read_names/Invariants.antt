use Rattle.std.proofs.Common.{◌≡◌, true, map}
use Rattle.std.specs.List.{list_all}
use Rattle.std.specs.Vec.Iter.{into_iter_items}
use Rattle.serde_json.specs.View.{view}
use Rattle.ps_json.specs.Each.{read_each, read_after}
use Rattle.ps_time.specs.Name.{is_name}
use Rattle.plugin_core.specs.ReadTest.{host_in}
use Rattle.plugin_core.proofs.read_test.read_names.Given as goal

-- what is left decides
abbrev pub invariant-loop-value : goal.invariant-loop-value
invariant-loop-value l = record {
  decides : read_each (host_in l.name) (map view l.fn.values.items) ≡ read_after (host_in l.name) l.names (map view (into_iter_items l.value-iterator));
  names : list_all is_name l.names ≡ true;
}
