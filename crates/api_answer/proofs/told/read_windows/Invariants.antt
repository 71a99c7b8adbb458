use Rattle.std.specs.Prelude.{All}
use Rattle.std.proofs.Common.{◌≡◌, map, length, ◌+◌}
use Rattle.std.specs.Vec.Iter.{into_iter_items}
use Rattle.serde_json.specs.View.{view}
use Rattle.ps_json.specs.Each.{read_each, read_after}
use Rattle.run_states.specs.LawfulRow.{IsWindow}
use Rattle.api_answer.specs.Told.{window_in}
use Rattle.api_answer.proofs.told.read_windows.Given as goal

-- those so far
abbrev pub invariant-loop-value : goal.invariant-loop-value
invariant-loop-value l = record {
  decides : read_each (window_in l.name) (map view l.fn.values.items) ≡ read_after (window_in l.name) l.windows (map view (into_iter_items l.value-iterator));
  bounds : All IsWindow l.windows;
  count : length l.windows + length (into_iter_items l.value-iterator) ≡ length l.fn.values.items;
}
