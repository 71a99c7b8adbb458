-- Lists of what was done with an object, where the object tells them.
use Rattle.std.specs.Prelude.{◌≡◌, Bool, if◌then◌else◌, List, [], ◌∷◌, ◌++◌, Option, IfSome, None, Some}

-- what was told before is told, and this is one more
abbrev pub TellsMore : {X : Type 0} → Option (List X) → Option (List X) → X → Type 0
TellsMore {X} old now more = IfSome now (λ told. (before : List X) × (old ≡ Some before) × (told ≡ before ++ more ∷ []))

-- the list, as long as memory never ran out
abbrev pub told_by : {X : Type 0} → Bool → List X → Option (List X)
told_by starved xs = if starved then None else Some xs

-- where the list is told it is empty
abbrev pub IsUntold : {X : Type 0} → Option (List X) → Type 0
IsUntold told = IfSome told (λ xs. xs ≡ [])
