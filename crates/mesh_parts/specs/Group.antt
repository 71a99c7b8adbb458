-- Groups of hosts, and the pairs that they have.
use Rattle.std.specs.Prelude.{ℕ, List, [], ◌∷◌, ◌++◌, map, filter, flat_map, Bool, true, false, ◌&&◌, ◌||◌, Some, None, bytes_eq, if◌then◌else◌}
use Rattle.std.specs.List.{list_any}
use Rattle.mesh_parts.specs.declared.group.Group.{Group}
use Rattle.mesh_parts.specs.declared.group.Group.TheVariants.{List as list, Mesh as mesh, Disjoint as disjoint}
use Rattle.mesh_parts.specs.declared.group.Pair.{Pair}

-- the names have this one
abbrev pub has : List (List ℕ) → List ℕ → Bool
has names name = list_any (λ other. bytes_eq other name) names

abbrev pub is_list : Group → Bool
is_list (list hosts) = true
is_list (mesh hosts) = false
is_list (disjoint some others) = false

-- the group has this host by itself
abbrev pub alone : Group → List ℕ → Bool
alone (list hosts) host = has hosts host
alone (mesh hosts) host = false
alone (disjoint some others) host = false

-- the group has both these hosts, so that the first may lead the second
abbrev pub apart : Group → List ℕ → List ℕ → Bool
apart (list hosts) first second = false
apart (mesh hosts) first second = has hosts first && has hosts second
apart (disjoint some others) first second = (has some first && has others second) || (has others first && has some second)

-- and they are two
abbrev pub joins : Group → List ℕ → List ℕ → Bool
joins group first second = if bytes_eq first second then false else apart group first second

abbrev pub single : Group → List ℕ → List Pair
single group host = if alone group host then record { first = host; second = None } ∷ [] else []

abbrev pub pair : List ℕ → List ℕ → Pair
pair first second = record { first = first; second = Some second }

-- the pairs of a host with those of a list
abbrev pub joined : Group → List (List ℕ) → List ℕ → List Pair
joined group hosts first = map (pair first) (filter (joins group first) hosts)

-- the members of a group that a host leads
abbrev pub pairs_at : Group → List (List ℕ) → List ℕ → List Pair
pairs_at group hosts host = single group host ++ joined group hosts host

-- the members of a group among these hosts
abbrev pub pairs_of : List (List ℕ) → Group → List Pair
pairs_of hosts group = flat_map (pairs_at group hosts) hosts
