-- What the members of a group are, as a set, and their order.
use Rattle.std.specs.Prelude.{◌≢◌, ◌⊎◌, ℕ, List, Contains, Option, Some, None}
use Rattle.std.specs.Cmp.Lexicographic.{slice_cmp}
use Rattle.std.specs.Ordering.{nat_cmp, match_ordering}
use Rattle.std.specs.declared.cmp.Ordering.{Ordering}
use Rattle.std.specs.declared.cmp.Ordering.TheVariants.{Less, Equal, Greater}
use Rattle.mesh_parts.specs.declared.group.Group.{Group}
use Rattle.mesh_parts.specs.declared.group.Group.TheVariants.{List as list, Mesh as mesh, Disjoint as disjoint}
use Rattle.mesh_parts.specs.declared.group.Pair.{Pair}

-- a group has these two hosts
abbrev pub HasBoth : Group → List ℕ → List ℕ → Type 0
HasBoth (list hosts) first second = ⊥
HasBoth (mesh hosts) first second = Contains hosts first × Contains hosts second
HasBoth (disjoint some others) first second = (Contains some first × Contains others second) ⊎ (Contains others first × Contains some second)

-- and a single one
abbrev pub HasAlone : Group → List ℕ → Type 0
HasAlone (list hosts) host = Contains hosts host
HasAlone (mesh hosts) host = ⊥
HasAlone (disjoint some others) host = ⊥

-- a host of a list, or two different hosts, all of them among those that have addresses
abbrev pub IsMemberOf : List (List ℕ) → Group → List ℕ → Option (List ℕ) → Type 0
IsMemberOf hosts group first None = Contains hosts first × HasAlone group first
IsMemberOf hosts group first (Some second) = Contains hosts first × Contains hosts second × (first ≢ second) × HasBoth group first second

abbrev pub IsMember : List (List ℕ) → Group → Pair → Type 0
IsMember hosts group pair = IsMemberOf hosts group pair.first pair.second

-- the order by the first and then by the second host
abbrev pub second_cmp : Option (List ℕ) → Option (List ℕ) → Ordering
second_cmp None None = Equal
second_cmp None (Some b) = Less
second_cmp (Some a) None = Greater
second_cmp (Some a) (Some b) = slice_cmp nat_cmp a b

abbrev pub pair_cmp : Pair → Pair → Ordering
pair_cmp p q = match_ordering (slice_cmp nat_cmp p.first q.first) Less (second_cmp p.second q.second) Greater
