-- The members of objects whose names are data.
use Rattle.std.specs.Prelude.{ℕ, List, length, ◌==◌, nat_lt, Result, Ok, Err, if◌then◌else◌}
use Rattle.serde_json.specs.Data.{Data}
use Rattle.ps_json.specs.Answer.{then_with}
use Rattle.ps_json.specs.Kinds.{members_of}
use Rattle.mesh_parts.specs.declared.fault.MeshFault.{MeshFault}
use Rattle.mesh_parts.specs.declared.fault.MeshFault.TheVariants.{Empty, TooMany}
use Rattle.mesh_parts.specs.declared.named.Named.{Named}
use Rattle.mesh_parts.specs.Fault.{in_json}
use Rattle.mesh_parts.specs.Named.{entries_of, read_named}

abbrev pub entries_in : List ℕ → Data → Result (List (Named Data)) MeshFault
entries_in name d = then_with (in_json (members_of name d)) (λ ms. Ok (entries_of ms))

-- 1 to 64 of them
abbrev pub counted_in : List ℕ → Data → Result (List (Named Data)) MeshFault
counted_in name d =
    then_with (entries_in name d) (λ es. if length es == 0 then Err (Empty name) else if nat_lt 64 (length es) then Err (TooMany name) else Ok es)

-- an object, with this name
abbrev pub object_in : List ℕ → Data → Result Data MeshFault
object_in name d = then_with (in_json (members_of name d)) (λ _. Ok d)

abbrev pub objects_in : List ℕ → Data → Result (List (Named Data)) MeshFault
objects_in name d = then_with (entries_in name d) (read_named object_in)
