use Rattle.std.proofs.Common.{◌≡◌, drop}
use Rattle.psconfig_mesh.specs.ReadTasks.{are_fit}
use Rattle.psconfig_mesh.proofs.read_tasks.are_fit.Given as goal

-- what is left decides
abbrev pub invariant-loop-pair : goal.invariant-loop-pair
invariant-loop-pair l =
    are_fit l.outline.moment l.outline.name l.task l.pairs ≡ are_fit l.outline.moment l.outline.name l.task (drop l.pair-index l.pairs)
