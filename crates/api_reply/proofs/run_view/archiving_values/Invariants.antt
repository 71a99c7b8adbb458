use Rattle.std.proofs.Common.{◌≡◌, ◌++◌, map, drop}
use Rattle.serde_json.specs.View.{view}
use Rattle.api_reply.specs.Views.{archivings}
use Rattle.api_reply.proofs.run_view.archiving_values.Given as goal

-- those so far, and what is left
abbrev pub invariant-loop-index : goal.invariant-loop-index
invariant-loop-index l =
    archivings l.archivers l.states ≡ map view l.values.items ++ archivings (drop l.index l.archivers) (drop l.index l.states)
