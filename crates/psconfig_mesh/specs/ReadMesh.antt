-- Which mesh a text is.
use Rattle.std.specs.Prelude.{ℕ, List, [], None, Result, Ok, codes}
use Rattle.serde_json.specs.Data.{Data, Members}
use Rattle.ps_json.specs.Answer.{then_with}
use Rattle.ps_json.specs.Fields.{without_member, end_of}
use Rattle.ps_json.specs.Kinds.{members_of}
use Rattle.ps_json.specs.Member.{required, optional, member_then}
use Rattle.ps_json.specs.Tree.{tree_of}
use Rattle.mesh_parts.specs.declared.fault.MeshFault.{MeshFault}
use Rattle.psconfig_mesh.specs.declared.mesh.Mesh.{Mesh}
use Rattle.psconfig_mesh.specs.declared.read_tasks.Outline.{Outline}
use Rattle.mesh_parts.specs.Entries.{objects_in}
use Rattle.mesh_parts.specs.Fault.{in_json, wrapped}
use Rattle.mesh_parts.specs.Fill.{filled}
use Rattle.mesh_parts.specs.ReadGroups.{host_name_in, addresses_in, groups_in}
use Rattle.psconfig_mesh.specs.ReadTasks.{tasks_in}

-- the members before the tasks, in the order in which they are read
abbrev pub outline_of : ℕ → Members → Result Outline MeshFault
outline_of now ms =
    member_then (codes "mesh") (required wrapped host_name_in) ms (λ name ms.
    member_then (codes "addresses") (required wrapped addresses_in) ms (λ addresses ms.
    member_then (codes "groups") (required wrapped (groups_in addresses)) ms (λ groups ms.
    member_then (codes "tests") (required wrapped objects_in) ms (λ tests ms.
    then_with (optional [] objects_in (codes "schedules") ms) (λ schedules.
    Ok (record { moment = now; name = name; addresses = addresses; groups = groups; tests = tests; schedules = schedules }))))))

abbrev pub after_outline : Members → Members
after_outline ms =
    without_member (codes "schedules") (without_member (codes "tests") (without_member (codes "groups") (without_member (codes "addresses") (without_member (codes "mesh") ms))))

-- the mesh that a tree without comments is
unfoldable pub mesh_in : ℕ → Data → Result Mesh MeshFault
mesh_in now d =
    then_with (in_json (members_of (codes "mesh") d)) (λ ms.
    then_with (outline_of now ms) (λ outline.
    member_then (codes "tasks") (required wrapped (tasks_in outline)) (after_outline ms) (λ tasks ms.
    then_with (in_json (end_of ms)) (λ _.
    Ok (record { moment = outline.moment; name = outline.name; addresses = outline.addresses; tasks = tasks })))))

-- the mesh that a text is, its comments left out before all else
abbrev pub mesh_of : ℕ → List ℕ → Result Mesh MeshFault
mesh_of now bytes = then_with (in_json (tree_of bytes)) (λ d. mesh_in now (filled None d))
