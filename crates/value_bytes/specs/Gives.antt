-- What a reader answers.
use Rattle.std.specs.Prelude.{◌≡◌, Err, None, Ok, Option, Result, Some}
use Rattle.value_bytes.specs.declared.fault.CodeFault.{CodeFault}
use Rattle.value_bytes.specs.declared.fault.CodeFault.TheVariants.{Memory, NoValue}

-- with this fault
abbrev pub Fails : {Y : Type 0} → CodeFault → Option Y → Type 0
Fails Memory want = Unit {0}
Fails NoValue want = want ≡ None

-- what was returned, seen by view, is what is wanted, unless memory ran out
abbrev pub Gives : {X Y : Type 0} → (X → Y) → Result X CodeFault → Option Y → Type 0
Gives view (Ok x) want = want ≡ Some (view x)
Gives view (Err fault) want = Fails fault want
