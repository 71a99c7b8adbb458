-- What the value of a member is, by its kind.
use Rattle.std.specs.Prelude.{ℕ, ℤ, List, [], ◌∷◌, Bool, ◌&&◌, if◌then◌else◌, nat_le, int_le, Option, Some, None, option_map, option_and_then, Result, Ok, Err}
use Rattle.serde_json.specs.Data.{Data, Items, no_items, item, Members}
use Rattle.serde_json.specs.Find.{as_number, as_u64, as_i64, as_str, as_bool, as_array, as_object}
use Rattle.ps_json.specs.declared.fault.JsonFault.{JsonFault}
use Rattle.ps_json.specs.declared.fault.JsonFault.TheVariants.{WrongKind}

-- the value that was found, or the refusal with the member's name
abbrev pub kind_or : {A : Type 0} → List ℕ → Option A → Result A JsonFault
kind_or name None = Err (WrongKind name)
kind_or name (Some x) = Ok x

abbrev pub items_list : Items → List Data
items_list no_items = []
items_list (item d ds) = d ∷ items_list ds

-- a whole number from `least` to `most`
abbrev pub count_within : ℕ → ℕ → Option ℕ → Option ℕ
count_within least most None = None
count_within least most (Some n) = if nat_le least n && nat_le n most then Some n else None

abbrev pub integer_within : ℤ → ℤ → Option ℤ → Option ℤ
integer_within least most None = None
integer_within least most (Some z) = if int_le least z && int_le z most then Some z else None

abbrev pub count_of : List ℕ → ℕ → ℕ → Data → Result ℕ JsonFault
count_of name least most d = kind_or name (count_within least most (option_and_then as_u64 (as_number d)))

abbrev pub integer_of : List ℕ → ℤ → ℤ → Data → Result ℤ JsonFault
integer_of name least most d = kind_or name (integer_within least most (option_and_then as_i64 (as_number d)))

abbrev pub text_of : List ℕ → Data → Result (List ℕ) JsonFault
text_of name d = kind_or name (as_str d)

abbrev pub boolean_of : List ℕ → Data → Result Bool JsonFault
boolean_of name d = kind_or name (as_bool d)

abbrev pub list_of : List ℕ → Data → Result (List Data) JsonFault
list_of name d = kind_or name (option_map items_list (as_array d))

abbrev pub members_of : List ℕ → Data → Result Members JsonFault
members_of name d = kind_or name (as_object d)
