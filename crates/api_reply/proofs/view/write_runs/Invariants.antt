use Rattle.std.proofs.Common.{◌≡◌, map, take}
use Rattle.serde_json.specs.View.{view}
use Rattle.api_reply.specs.Views.{run_link}
use Rattle.api_reply.proofs.view.write_runs.Given as goal

-- the runs so far
abbrev pub invariant-loop-key : goal.invariant-loop-key
invariant-loop-key l = map view l.values.items ≡ map (run_link l.config) (take l.key-index l.keys)
