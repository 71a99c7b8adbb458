use Rattle.std.proofs.Common.{◌≡◌, ◌+◌, length, map, All}
use Rattle.std.specs.Vec.Iter.{into_iter_items}
use Rattle.serde_json.specs.View.{view}
use Rattle.ps_json.specs.Each.{read_each, read_after}
use Rattle.archive_retry.specs.Bounds.{IsEntry}
use Rattle.archive_retry.specs.ReadPolicy.{entry_of}
use Rattle.archive_retry.proofs.read_policy.read_entries.Given as goal

-- what is left decides
abbrev pub invariant-loop-value : goal.invariant-loop-value
invariant-loop-value l = record {
  decides : read_each entry_of (map view l.fn.values.items) ≡ read_after entry_of l.entries (map view (into_iter_items l.value-iterator));
  bounds : All IsEntry l.entries;
  count : length l.entries + length (into_iter_items l.value-iterator) ≡ length l.fn.values.items;
}
