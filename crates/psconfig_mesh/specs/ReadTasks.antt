-- Which tasks a JSON tree is.
use Rattle.std.specs.Prelude.{ℕ, ◌+◌, ◌-◌, nat_lt, ◌&&◌, Bool, List, [], ◌∷◌, ◌++◌, length, Option, Some, None, Result, Ok, Err, if◌then◌else◌, codes}
use Rattle.std.specs.List.{list_all}
use Rattle.serde_json.specs.Data.{Data, object, Members, no_members, put}
use Rattle.serde_json.specs.Find.{get_member}
use Rattle.ps_json.specs.Answer.{then_with}
use Rattle.ps_json.specs.Fields.{end_of}
use Rattle.ps_json.specs.Kinds.{text_of, members_of}
use Rattle.ps_json.specs.Member.{required, optional, member_then}
use Rattle.mesh_parts.specs.declared.fault.MeshFault.{MeshFault}
use Rattle.mesh_parts.specs.declared.fault.MeshFault.TheVariants.{TooMany, UnknownName, BadTemplate, BadTask}
use Rattle.mesh_parts.specs.declared.group.Group.{Group}
use Rattle.mesh_parts.specs.declared.group.Pair.{Pair}
use Rattle.psconfig_mesh.specs.declared.mesh.MeshTask.{MeshTask}
use Rattle.mesh_parts.specs.declared.named.Named.{Named}
use Rattle.psconfig_mesh.specs.declared.read_tasks.Outline.{Outline}
use Rattle.psconfig_mesh.specs.Body.{body_data, fits}
use Rattle.mesh_parts.specs.Entries.{counted_in}
use Rattle.mesh_parts.specs.Fault.{in_json, wrapped}
use Rattle.mesh_parts.specs.Fill.{mentions}
use Rattle.mesh_parts.specs.Group.{is_list}
use Rattle.psconfig_mesh.specs.Mesh.{pairs_in}
use Rattle.mesh_parts.specs.Named.{find}

-- the thing of a name, which has to be there
abbrev pub known : {T : Type 0} → List ℕ → Option T → Result T MeshFault
known name None = Err (UnknownName name)
known name (Some thing) = Ok thing

-- the thing that a text names
abbrev pub named_in : {T : Type 0} → List (Named T) → List ℕ → Data → Result T MeshFault
named_in things member d = then_with (in_json (text_of member d)) (λ name. known name (find name things))

-- the test that a text names, which may ask for a second host only where the group has pairs
abbrev pub test_in : List (Named Data) → Group → List ℕ → Data → Result Data MeshFault
test_in tests group member d =
    then_with (in_json (text_of member d)) (λ name.
    then_with (known name (find name tests)) (λ test.
    if is_list group && mentions (codes "{% address[1] %}") test then Err (BadTemplate name) else Ok test))

abbrev pub schedule_in : List (Named Data) → List ℕ → Data → Result (Option Data) MeshFault
schedule_in schedules member d = then_with (named_in schedules member d) (λ schedule. Ok (Some schedule))

-- a member of which nothing is asked yet
abbrev pub kept : List ℕ → Members → Result (Option Data) MeshFault
kept name ms = Ok (get_member name ms)

-- a member, where there is one
abbrev pub with_some : List ℕ → Option Data → Members → Members
with_some name None ms = ms
with_some name (Some d) ms = put name d ms

-- the members behind the test, as an object
abbrev pub rest_of : List (Named Data) → Members → Result Data MeshFault
rest_of schedules ms =
    member_then (codes "schedule") (optional None (schedule_in schedules)) ms (λ schedule ms.
    member_then (codes "tools") kept ms (λ tools ms.
    member_then (codes "archives") kept ms (λ archives ms.
    member_then (codes "priority") kept ms (λ priority ms.
    then_with (in_json (end_of ms)) (λ _.
    Ok (object (with_some (codes "priority") priority (with_some (codes "archives") archives (with_some (codes "tools") tools (with_some (codes "schedule") schedule no_members))))))))))

-- the members of a task, in the order in which they are read
unfoldable pub task_in : Outline → List ℕ → Data → Result MeshTask MeshFault
task_in outline name d =
    then_with (in_json (members_of name d)) (λ ms.
    member_then (codes "group") (required wrapped (named_in outline.groups)) ms (λ group ms.
    member_then (codes "test") (required wrapped (test_in outline.tests group)) ms (λ test ms.
    then_with (rest_of outline.schedules ms) (λ rest.
    Ok (record { name = name; group = group; test = test; rest = rest })))))

-- the first host of each of these pairs would read the task's body as a task that it leads
abbrev pub are_fit : ℕ → List ℕ → MeshTask → List Pair → Bool
are_fit now mesh task pairs = list_all (λ pair. fits now pair.first (body_data mesh task pair)) pairs

-- how many tasks are wanted with this one, where so many were before
unfoldable pub count_with : Outline → ℕ → MeshTask → Result ℕ MeshFault
count_with outline count task =
    let pairs = pairs_in outline.addresses task in
    if are_fit outline.moment outline.name task pairs then
    (if nat_lt (4_096 - count) (length pairs) then Err (TooMany (codes "tasks")) else Ok (count + length pairs))
    else Err (BadTask task.name)

-- tasks behind those that were read before, of which so many are wanted
abbrev pub tasks_from : Outline → ℕ → List MeshTask → List (Named Data) → Result (List MeshTask) MeshFault
tasks_from outline count done [] = Ok done
tasks_from outline count done (e ∷ es) =
    then_with (task_in outline e.name e.value) (λ task.
    then_with (count_with outline count task) (λ more. tasks_from outline more (done ++ task ∷ []) es))

abbrev pub tasks_in : Outline → List ℕ → Data → Result (List MeshTask) MeshFault
tasks_in outline name d = then_with (counted_in name d) (tasks_from outline 0 [])
