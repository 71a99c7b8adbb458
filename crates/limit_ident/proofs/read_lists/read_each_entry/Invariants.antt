use Rattle.std.proofs.Common.{◌≡◌, [], map}
use Rattle.std.specs.Vec.Iter.{into_iter_items}
use Rattle.serde_json.specs.View.{view}
use Rattle.limit_ident.specs.Named.{entries_from}
use Rattle.limit_ident.proofs.read_lists.read_each_entry.Given as goal

-- what is left decides
abbrev pub invariant-loop-value : goal.invariant-loop-value
invariant-loop-value g l = entries_from l.list (g.R.ReadEntry.rest l.reader) [] (map view l.fn.values.items) ≡ entries_from l.list (g.R.ReadEntry.rest l.reader) l.entries (map view (into_iter_items l.value-iterator))
