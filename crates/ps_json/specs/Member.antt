-- How grammars of objects are written: a line for each member, in the order in which they are read.
use Rattle.std.specs.Prelude.{ℕ, List, Option, Some, None, Result, Ok}
use Rattle.serde_json.specs.Data.{Data, Members}
use Rattle.serde_json.specs.Find.{get_member}
use Rattle.ps_json.specs.Answer.{then_with, lifted}
use Rattle.ps_json.specs.Fields.{without_member, need_of}
use Rattle.ps_json.specs.declared.fault.JsonFault.{JsonFault}

-- a member that has to be there, with its content
abbrev pub required : {A E : Type 0} → (JsonFault → E) → (List ℕ → Data → Result A E) → List ℕ → Members → Result A E
required wrap content name ms = then_with (lifted wrap (need_of name ms)) (content name)

-- one that may be left out, and what its absence means
abbrev pub optional : {A E : Type 0} → A → (List ℕ → Data → Result A E) → List ℕ → Members → Result A E
optional {A} {E} absent content name ms = given (get_member name ms)
  where
    given : Option Data → Result A E
    given None = Ok absent
    given (Some d) = content name d

-- read a member, and go on with its value over the members that are left
abbrev pub member_then : {A B E : Type 0} → List ℕ → (List ℕ → Members → Result A E) → Members → (A → Members → Result B E) → Result B E
member_then name read ms next = then_with (read name ms) (λ a. next a (without_member name ms))
