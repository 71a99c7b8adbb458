-- The members of an object, each taken once.
use Rattle.std.specs.Prelude.{ℕ, ◌+◌, List, [], ◌∷◌, Bool, false, ◌==◌, if◌then◌else◌, bytes_eq, Option, Some, None, Result, Ok, Err, ⊤}
use Rattle.std.specs.Ordering.{nat_cmp, match_ordering}
use Rattle.std.specs.Cmp.Lexicographic.{slice_cmp}
use Rattle.serde_json.specs.Data.{Data, Members, no_members, member, put}
use Rattle.serde_json.specs.Find.{get_member}
use Rattle.ps_json.specs.declared.fault.JsonFault.{JsonFault}
use Rattle.ps_json.specs.declared.fault.JsonFault.TheVariants.{Missing, Unknown}

-- the members without any of that name
abbrev pub without_member : List ℕ → Members → Members
without_member name no_members = no_members
without_member name (member k d ms) = if bytes_eq name k then without_member name ms else member k d (without_member name ms)

-- the member of that name, which has to be there
abbrev pub need_of : List ℕ → Members → Result Data JsonFault
need_of name ms = found (get_member name ms)
  where
    found : Option Data → Result Data JsonFault
    found None = Err (Missing name)
    found (Some d) = Ok d

-- a name that begins with '#' is a comment
abbrev pub is_comment : List ℕ → Bool
is_comment [] = false
is_comment (b ∷ bs) = b == 35

-- the lesser of a name and another, by bytes
abbrev pub least_name : List ℕ → Option (List ℕ) → List ℕ
least_name name None = name
least_name name (Some other) = match_ordering (slice_cmp nat_cmp name other) name name other

-- the least name that is no comment
abbrev pub least_unknown : Members → Option (List ℕ)
least_unknown no_members = None
least_unknown (member k d ms) = if is_comment k then least_unknown ms else Some (least_name k (least_unknown ms))

-- nothing but comments is left
abbrev pub end_of : Members → Result ⊤ JsonFault
end_of ms = refused (least_unknown ms)
  where
    refused : Option (List ℕ) → Result ⊤ JsonFault
    refused None = Ok tt
    refused (Some name) = Err (Unknown name)

-- the first member that is no comment, in the members' order
abbrev pub next_of : Members → Option (List ℕ × Data)
next_of no_members = None
next_of (member k d ms) = if is_comment k then next_of ms else Some (k, d)

-- the members behind it
abbrev pub behind_next : Members → Members
behind_next no_members = no_members
behind_next (member k d ms) = if is_comment k then behind_next ms else ms

-- how many members there are
abbrev pub members_count : Members → ℕ
members_count no_members = 0
members_count (member k d ms) = members_count ms + 1

-- a member put to the others, unless it is a comment
abbrev pub with_plain : List ℕ → Data → Members → Members
with_plain k d ms = if is_comment k then ms else put k d ms
