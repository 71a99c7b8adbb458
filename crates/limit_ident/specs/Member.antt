-- What members hold, and how objects end.
use Rattle.std.specs.Prelude.{ℕ, ◌&&◌, ℤ, int_le, Bool, List, [], ◌∷◌, Option, Some, None, is_some, option_and_then, Result, Ok, Err, ⊤, if◌then◌else◌, codes}
use Rattle.serde_json.specs.Data.{Data, Members}
use Rattle.serde_json.specs.Find.{as_number, as_i64, as_u64}
use Rattle.ps_json.specs.Answer.{then_with}
use Rattle.ps_json.specs.Fields.{end_of}
use Rattle.ps_json.specs.Member.{optional, member_then}
use Rattle.ps_json.specs.Kinds.{text_of, boolean_of, list_of, members_of}
use Rattle.ps_json.specs.declared.fault.JsonFault.TheVariants.{WrongKind}
use Rattle.limit_ident.specs.declared.fault.LimitFault.{LimitFault}
use Rattle.limit_ident.specs.declared.fault.LimitFault.TheVariants.{Json, Empty, BadRange}
use Rattle.limit_ident.specs.Fault.{in_json}

abbrev pub text_in : List ℕ → Data → Result (List ℕ) LimitFault
text_in name d = in_json (text_of name d)

abbrev pub flag_in : List ℕ → Data → Result Bool LimitFault
flag_in name d = in_json (boolean_of name d)

abbrev pub object_in : List ℕ → Data → Result Members LimitFault
object_in name d = in_json (members_of name d)

-- a list that isn't empty
abbrev pub some_in : List ℕ → Data → Result (List Data) LimitFault
some_in name d = then_with (in_json (list_of name d)) some
  where
    some : List Data → Result (List Data) LimitFault
    some [] = Err (Empty name)
    some (d ∷ ds) = Ok (d ∷ ds)

-- a whole number from `least` to `most`; one out of these bounds, also one of 2^63 or more, is refused as of `place`
abbrev pub whole_in : List ℕ → ℤ → ℤ → List ℕ → Data → Result ℤ LimitFault
whole_in place least most name d = bounded (option_and_then as_i64 (as_number d)) (is_some (option_and_then as_u64 (as_number d)))
  where
    bounded : Option ℤ → Bool → Result ℤ LimitFault
    bounded (Some z) unsigned = if int_le least z && int_le z most then Ok z else Err (BadRange place)
    bounded None unsigned = if unsigned then Err (BadRange place) else Err (Json (WrongKind name))

-- a text that may be there and means nothing
abbrev pub remark_in : List ℕ → Data → Result ⊤ LimitFault
remark_in name d = then_with (text_in name d) (λ _. Ok tt)

abbrev pub ended : Members → Result ⊤ LimitFault
ended ms = in_json (end_of ms)

-- a description may be there, and nothing else but comments
abbrev pub described : Members → Result ⊤ LimitFault
described ms = member_then (codes "description") (optional tt remark_in) ms (λ _ ms. ended ms)
