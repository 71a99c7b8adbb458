use Rattle.std.proofs.Common.{◌≡◌, ◌++◌, drop, flat_map, All}
use Rattle.psconfig_mesh.specs.Mesh.{IsWanted, wanted_by, wanted_of}
use Rattle.psconfig_mesh.proofs.wanted.wanted_tasks.Given as goal

-- what was wanted so far, and what is left
abbrev pub invariant-loop-task : goal.invariant-loop-task
invariant-loop-task l = record {
  value : wanted_of l.mesh ≡ l.wanted.items ++ flat_map (wanted_by l.mesh) (drop l.task-index l.task-items);
  reads : All (IsWanted l.mesh.moment) l.wanted.items;
}
