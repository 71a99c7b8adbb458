-- Lists of things with names.
use Rattle.std.specs.Prelude.{ℕ, List, [], ◌∷◌, ◌++◌, map, Option, Some, None, Result, Ok, if◌then◌else◌, bytes_eq}
use Rattle.std.specs.Cmp.Lexicographic.{slice_cmp}
use Rattle.std.specs.List.Sorted.{IsStrictlySortedBy}
use Rattle.std.specs.Ordering.{nat_cmp}
use Rattle.serde_json.specs.Data.{Data, Members, no_members, member}
use Rattle.ps_json.specs.Answer.{then_with}
use Rattle.mesh_parts.specs.declared.named.Named.{Named}

-- the names of a list's things
abbrev pub names_of : {T : Type 0} → List (Named T) → List (List ℕ)
names_of es = map (λ e. e.name) es

-- names ascend, by their bytes, and none comes twice
abbrev pub Ascend : List (List ℕ) → Type 0
Ascend names = IsStrictlySortedBy (slice_cmp nat_cmp) names

-- the first thing of a name
abbrev pub find : {T : Type 0} → List ℕ → List (Named T) → Option T
find name [] = None
find name (e ∷ es) = if bytes_eq e.name name then Some e.value else find name es

-- the members of an object, each with its name
abbrev pub entries_of : Members → List (Named Data)
entries_of no_members = []
entries_of (member k d ms) = record { name = k; value = d } ∷ entries_of ms

-- each thing read, behind those that were read before, or the first refusal
abbrev pub read_from : {A B E : Type 0} → (List ℕ → A → Result B E) → List (Named B) → List (Named A) → Result (List (Named B)) E
read_from read done [] = Ok done
read_from read done (e ∷ es) = then_with (read e.name e.value) (λ b. read_from read (done ++ record { name = e.name; value = b } ∷ []) es)

abbrev pub read_named : {A B E : Type 0} → (List ℕ → A → Result B E) → List (Named A) → Result (List (Named B)) E
read_named read es = read_from read [] es
