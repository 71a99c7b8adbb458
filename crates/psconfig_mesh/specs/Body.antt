-- What is posted for one pair of hosts, and the mark that tells it from the rest.
use Rattle.std.specs.Prelude.{ℕ, List, [], ◌∷◌, map, Bool, false, ◌&&◌, nat_le, Option, Some, None, is_ok, if◌then◌else◌, codes}
use Rattle.serde_json.specs.Data.{Data, string, array, object, no_members, member, put, depth}
use Rattle.serde_json.specs.View.{items_of}
use Rattle.serde_json.specs.Written.{has_float}
use Rattle.task_spec.specs.ReadTask.{task_of}
use Rattle.task_spec.specs.WriteTask.{members_in}
use Rattle.mesh_parts.specs.declared.group.Pair.{Pair}
use Rattle.psconfig_mesh.specs.declared.mesh.MeshTask.{MeshTask}
use Rattle.mesh_parts.specs.Fill.{filled}

-- the hosts of a pair, in their order
abbrev pub hosts_of : List ℕ → Option (List ℕ) → List (List ℕ)
hosts_of first None = first ∷ []
hosts_of first (Some second) = first ∷ second ∷ []

abbrev pub hosts_data : Pair → Data
hosts_data pair = array (items_of (map string (hosts_of pair.first pair.second)))

-- `{"mesh":NAME,"pair":[HOST,..],"task":NAME}`
abbrev pub mark_data : List ℕ → List ℕ → Pair → Data
mark_data mesh task pair = object (member (codes "mesh") (string mesh) (member (codes "pair") (hosts_data pair) (member (codes "task") (string task) no_members)))

-- the task's members, the test for these hosts, and the mark as reference
abbrev pub body_data : List ℕ → MeshTask → Pair → Data
body_data mesh task pair =
    object (put (codes "reference") (mark_data mesh task.name pair) (put (codes "test") (filled (Some pair) task.test) (members_in task.rest)))

-- a host would read the text of this tree as a task that it leads
unfoldable pub fits : ℕ → List ℕ → Data → Bool
fits now lead d = if has_float d then false else nat_le (depth d) 64 && is_ok (task_of now lead d)
