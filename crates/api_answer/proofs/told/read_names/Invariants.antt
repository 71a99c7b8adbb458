use Rattle.std.proofs.Common.{◌≡◌, map, codes}
use Rattle.std.specs.Vec.Iter.{into_iter_items}
use Rattle.serde_json.specs.View.{view}
use Rattle.ps_json.specs.Each.{read_each, read_after}
use Rattle.api_body.specs.Bodies.{text_at}
use Rattle.api_answer.proofs.told.read_names.Given as goal

-- those so far
abbrev pub invariant-loop-value : goal.invariant-loop-value
invariant-loop-value l = read_each (text_at (codes "tools")) (map view l.fn.values.items) ≡ read_after (text_at (codes "tools")) l.names (map view (into_iter_items l.value-iterator))
