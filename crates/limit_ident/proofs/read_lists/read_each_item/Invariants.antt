use Rattle.std.proofs.Common.{◌≡◌, map}
use Rattle.std.specs.Vec.Iter.{into_iter_items}
use Rattle.serde_json.specs.View.{view}
use Rattle.ps_json.specs.Each.{read_each, read_after}
use Rattle.limit_ident.proofs.read_lists.read_each_item.Given as goal

-- what is left decides
abbrev pub invariant-loop-value : goal.invariant-loop-value
invariant-loop-value g l = read_each (g.R.ReadItem.item l.reader) (map view l.fn.values.items) ≡ read_after (g.R.ReadItem.item l.reader) l.items (map view (into_iter_items l.value-iterator))
