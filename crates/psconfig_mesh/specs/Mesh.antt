-- Meshes, and the tasks that they want.
use Rattle.std.specs.Prelude.{◌≡◌, ◌≤◌, ℕ, List, [], map, flat_map, length, All, true, Some, Ok, sum_by}
use Rattle.std.specs.List.{list_all}
use Rattle.std.specs.Option.{unwrap_or}
use Rattle.serde_json.specs.Data.{Data}
use Rattle.serde_json.specs.Written.{compact_text}
use Rattle.ps_json.specs.Tree.{tree_of}
use Rattle.ps_time.specs.declared.moment.TheConstants.{MAX_MOMENT}
use Rattle.task_spec.specs.ReadTask.{task_of}
use Rattle.task_spec.specs.declared.task.Task.{Task}
use Rattle.mesh_parts.specs.declared.group.Pair.{Pair}
use Rattle.psconfig_mesh.specs.declared.mesh.Mesh.{Mesh}
use Rattle.psconfig_mesh.specs.declared.mesh.MeshTask.{MeshTask}
use Rattle.psconfig_mesh.specs.declared.mesh.Wanted.{Wanted}
use Rattle.mesh_parts.specs.declared.named.Named.{Named}
use Rattle.psconfig_mesh.specs.Body.{mark_data, body_data, fits}
use Rattle.mesh_parts.specs.Group.{pairs_of}
use Rattle.mesh_parts.specs.Named.{Ascend, names_of, find}

abbrev pub task_names : List MeshTask → List (List ℕ)
task_names tasks = map (λ task. task.name) tasks

-- the members of a task's group
abbrev pub pairs_in : List (Named (List ℕ)) → MeshTask → List Pair
pairs_in addresses task = pairs_of (names_of addresses) task.group

-- ---- what is wanted

-- of a task and a member of its group: its first host leads
abbrev pub wanted : Mesh → MeshTask → Pair → Wanted
wanted mesh task pair = record {
  lead = pair.first;
  url = unwrap_or (find pair.first mesh.addresses) [];
  mark = compact_text (mark_data mesh.name task.name pair);
  body = compact_text (body_data mesh.name task pair);
}

-- of each member of a task's group
abbrev pub wanted_by : Mesh → MeshTask → List Wanted
wanted_by mesh task = map (wanted mesh task) (pairs_in mesh.addresses task)

-- by each task
abbrev pub wanted_of : Mesh → List Wanted
wanted_of mesh = flat_map (wanted_by mesh) mesh.tasks

abbrev pub wanted_count : List (Named (List ℕ)) → List MeshTask → ℕ
wanted_count addresses tasks = sum_by (λ task. length (pairs_in addresses task)) tasks

-- ---- which meshes are read

-- the first host of each member of the task's group would read the task's body as a task that it leads
abbrev pub IsFit : ℕ → List ℕ → List (Named (List ℕ)) → MeshTask → Type 0
IsFit now mesh addresses task = list_all (λ pair. fits now pair.first (body_data mesh task pair)) (pairs_in addresses task) ≡ true

-- hosts and tasks ascend by their names, each body is a task, and there aren't too many
pub record IsMesh (mesh : Mesh) : Type 0 where
  pub moment : mesh.moment ≤ MAX_MOMENT
  pub hosts : Ascend (names_of mesh.addresses)
  pub tasks : Ascend (task_names mesh.tasks)
  pub fit : All (IsFit mesh.moment mesh.name mesh.addresses) mesh.tasks
  pub few : wanted_count mesh.addresses mesh.tasks ≤ 4_096

-- the body reads as a task that the lead leads, with the mark as its reference
pub record IsWanted (now : ℕ) (w : Wanted) : Type 0 where
  pub tree : Data
  pub reads : tree_of w.body ≡ Ok tree
  pub task : Task
  pub is : task_of now w.lead tree ≡ Ok task
  pub marked : task.reference ≡ Some w.mark
