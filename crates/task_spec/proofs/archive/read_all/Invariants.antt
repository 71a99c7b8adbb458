use Rattle.std.proofs.Common.{◌≡◌, ◌+◌, length, map, All}
use Rattle.std.specs.Vec.Iter.{into_iter_items}
use Rattle.serde_json.specs.View.{view}
use Rattle.task_spec.specs.Bounds.{IsArchive}
use Rattle.ps_json.specs.Each.{read_each, read_after}
use Rattle.task_spec.specs.ReadArchive.{archive_of}
use Rattle.task_spec.proofs.archive.read_all.Given as goal

-- what is left decides
abbrev pub invariant-loop-value : goal.invariant-loop-value
invariant-loop-value l = record {
  decides : read_each archive_of (map view l.fn.values.items) ≡ read_after archive_of l.archives (map view (into_iter_items l.value-iterator));
  bounds : All IsArchive l.archives;
  count : length l.archives + length (into_iter_items l.value-iterator) ≡ length l.fn.values.items;
}
