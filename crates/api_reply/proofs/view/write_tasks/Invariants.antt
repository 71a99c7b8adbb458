use Rattle.std.proofs.Common.{◌≡◌, map, take}
use Rattle.serde_json.specs.View.{view}
use Rattle.api_reply.specs.Views.{task_link}
use Rattle.api_reply.proofs.view.write_tasks.Given as goal

-- the tasks so far
abbrev pub invariant-loop-serial : goal.invariant-loop-serial
invariant-loop-serial l = map view l.values.items ≡ map (task_link l.config) (take l.serial-index l.serials)
