-- Which tree some bytes are (RFC 8259).
use Rattle.std.specs.Prelude.{◌≡◌, ℕ, List, false, nat_lt, if◌then◌else◌, Option, Some, None, Result, Ok, Err}
use Rattle.std.specs.Str.{is_utf8}
use Rattle.serde_json.specs.Data.{Data, depth}
use Rattle.serde_json.specs.Read.{read}
use Rattle.serde_json.specs.Written.{has_float}
use Rattle.ps_time.specs.Numbers.{most_json_depth}
use Rattle.ps_json.specs.Answer.{then_with}
use Rattle.ps_json.specs.declared.fault.JsonFault.{JsonFault}
use Rattle.ps_json.specs.declared.fault.JsonFault.TheVariants.{Syntax, TooDeep, NotUtf8}

-- the tree of a JSON text, up to 127 levels deep
abbrev pub parsed : List ℕ → Result Data JsonFault
parsed bytes = if is_utf8 bytes then by_grammar (read bytes) else Err NotUtf8
  where
    by_grammar : Option Data → Result Data JsonFault
    by_grammar None = Err Syntax
    by_grammar (Some d) = Ok d

-- the tree of a JSON text, as deep as one may be
abbrev pub tree_of : List ℕ → Result Data JsonFault
tree_of bytes = then_with (parsed bytes) (λ d. if nat_lt most_json_depth (depth d) then Err TooDeep else Ok d)

-- every number of the tree is whole
abbrev pub IsWhole : Data → Type 0
IsWhole d = has_float d ≡ false
