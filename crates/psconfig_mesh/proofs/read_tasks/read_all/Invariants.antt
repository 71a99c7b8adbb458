use Rattle.std.proofs.Common.{◌≡◌, ◌≤◌, ◌++◌, [], All}
use Rattle.std.specs.Vec.Iter.{into_iter_items}
use Rattle.psconfig_mesh.specs.Mesh.{task_names, wanted_count, IsFit}
use Rattle.mesh_parts.specs.Named.{names_of}
use Rattle.psconfig_mesh.specs.ReadTasks.{tasks_from}
use Rattle.psconfig_mesh.proofs.read_tasks.read_all.Given as goal

-- what is left decides
abbrev pub invariant-loop-entry : goal.invariant-loop-entry
invariant-loop-entry l = record {
  decides : tasks_from l.outline 0 [] l.fn.entries.items ≡ tasks_from l.outline l.count l.tasks (into_iter_items l.entry-iterator);
  names : task_names l.tasks ++ names_of (into_iter_items l.entry-iterator) ≡ names_of l.fn.entries.items;
  count : l.count ≡ wanted_count l.outline.addresses l.tasks;
  few : l.count ≤ 4_096;
  fit : All (IsFit l.outline.moment l.outline.name l.outline.addresses) l.tasks;
}
