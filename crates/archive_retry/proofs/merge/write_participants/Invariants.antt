use Rattle.std.proofs.Common.{◌≡◌, ◌&&◌, ◌++◌, map, drop}
use Rattle.serde_json.specs.View.{view}
use Rattle.archive_retry.specs.Merge.{participants, all_good}
use Rattle.archive_retry.proofs.merge.write_participants.Given as goal

-- those so far, and what is left
abbrev pub invariant-loop-index : goal.invariant-loop-index
invariant-loop-index l = record {
  values : participants l.hosts l.results ≡ map view l.values.items ++ participants (drop l.index l.hosts) (drop l.index l.results);
  good : all_good l.results ≡ (l.all_good && all_good (drop l.index l.results));
}
