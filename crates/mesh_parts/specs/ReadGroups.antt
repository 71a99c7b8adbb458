-- Which addresses and groups a JSON tree is.
use Rattle.std.specs.Prelude.{ℕ, List, [], ◌∷◌, Option, Some, None, is_some, Result, Ok, Err, bytes_eq, if◌then◌else◌, codes}
use Rattle.serde_json.specs.Data.{Data, Members}
use Rattle.ps_json.specs.Answer.{then_with}
use Rattle.ps_json.specs.Each.{read_each}
use Rattle.ps_json.specs.Fields.{without_member, end_of}
use Rattle.ps_json.specs.Kinds.{text_of, list_of, members_of}
use Rattle.ps_json.specs.Member.{required, member_then}
use Rattle.ps_json.specs.declared.fault.JsonFault.TheVariants.{WrongKind}
use Rattle.ps_time.specs.Name.{is_name}
use Rattle.mesh_parts.specs.declared.fault.MeshFault.{MeshFault}
use Rattle.mesh_parts.specs.declared.fault.MeshFault.TheVariants.{Json, Empty, BadName, BadUrl, UnknownName}
use Rattle.mesh_parts.specs.declared.group.Group.{Group}
use Rattle.mesh_parts.specs.declared.group.Group.TheVariants.{List as list, Mesh as mesh, Disjoint as disjoint}
use Rattle.mesh_parts.specs.declared.named.Named.{Named}
use Rattle.mesh_parts.specs.declared.read_groups.Kind.{Kind}
use Rattle.mesh_parts.specs.declared.read_groups.Kind.TheVariants.{List as a_list, Mesh as a_mesh, Disjoint as two_lists}
use Rattle.mesh_parts.specs.Address.{is_host_url}
use Rattle.mesh_parts.specs.Entries.{counted_in}
use Rattle.mesh_parts.specs.Fault.{in_json, wrapped}
use Rattle.mesh_parts.specs.Named.{find, read_named}

-- ---- addresses

-- a name as hosts have them
abbrev pub host_name_in : List ℕ → Data → Result (List ℕ) MeshFault
host_name_in name d = then_with (in_json (text_of name d)) (λ bs. if is_name bs then Ok bs else Err (BadName bs))

-- the URL of a host
abbrev pub address_in : List ℕ → Data → Result (List ℕ) MeshFault
address_in host d =
    if is_name host then then_with (in_json (text_of host d)) (λ bs. if is_host_url bs then Ok bs else Err (BadUrl host))
    else Err (BadName host)

abbrev pub addresses_in : List ℕ → Data → Result (List (Named (List ℕ))) MeshFault
addresses_in name d = then_with (counted_in name d) (read_named address_in)

-- ---- groups

abbrev pub kind_of : List ℕ → Option Kind
kind_of bs =
    if bytes_eq bs (codes "list") then Some a_list
    else if bytes_eq bs (codes "mesh") then Some a_mesh
    else if bytes_eq bs (codes "disjoint") then Some two_lists
    else None

abbrev pub kind_in : List ℕ → Data → Result Kind MeshFault
kind_in name d = then_with (in_json (text_of name d)) (λ bs. known (kind_of bs))
  where
    known : Option Kind → Result Kind MeshFault
    known None = Err (Json (WrongKind name))
    known (Some kind) = Ok kind

-- a host that has an address
abbrev pub host_in : List (Named (List ℕ)) → List ℕ → Data → Result (List ℕ) MeshFault
host_in addresses name d = then_with (in_json (text_of name d)) (λ bs. if is_some (find bs addresses) then Ok bs else Err (UnknownName bs))

-- a list of such hosts, which isn't empty
abbrev pub hosts_in : List (Named (List ℕ)) → List ℕ → Data → Result (List (List ℕ)) MeshFault
hosts_in addresses name d = then_with (in_json (list_of name d)) some
  where
    some : List Data → Result (List (List ℕ)) MeshFault
    some [] = Err (Empty name)
    some (d ∷ ds) = read_each (host_in addresses name) (d ∷ ds)

-- the lists that a group of a kind has, in the order in which they are read
abbrev pub group_of : Kind → List (Named (List ℕ)) → Members → Result Group MeshFault
group_of a_list addresses ms = then_with (required wrapped (hosts_in addresses) (codes "addresses") ms) (λ hosts. Ok (list hosts))
group_of a_mesh addresses ms = then_with (required wrapped (hosts_in addresses) (codes "addresses") ms) (λ hosts. Ok (mesh hosts))
group_of two_lists addresses ms =
    member_then (codes "a-addresses") (required wrapped (hosts_in addresses)) ms (λ some ms.
    then_with (required wrapped (hosts_in addresses) (codes "b-addresses") ms) (λ others. Ok (disjoint some others)))

-- the members that are left behind them
abbrev pub after_group : Kind → Members → Members
after_group a_list ms = without_member (codes "addresses") ms
after_group a_mesh ms = without_member (codes "addresses") ms
after_group two_lists ms = without_member (codes "b-addresses") (without_member (codes "a-addresses") ms)

abbrev pub group_in : List (Named (List ℕ)) → List ℕ → Data → Result Group MeshFault
group_in addresses name d =
    then_with (in_json (members_of name d)) (λ ms.
    member_then (codes "type") (required wrapped kind_in) ms (λ kind ms.
    then_with (group_of kind addresses ms) (λ group.
    then_with (in_json (end_of (after_group kind ms))) (λ _. Ok group))))

abbrev pub groups_in : List (Named (List ℕ)) → List ℕ → Data → Result (List (Named Group)) MeshFault
groups_in addresses name d = then_with (counted_in name d) (read_named (group_in addresses))
