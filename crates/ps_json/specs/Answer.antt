-- What a call answers, where out of memory may come in place of any answer.
use Rattle.std.specs.Prelude.{◌≡◌, ◌≢◌, Result, Ok, Err}

-- the answer is the wanted one, or the fault m
abbrev pub GivesUnless : {A E : Type 0} → E → Result A E → Result A E → Type 0
GivesUnless m (Ok x) want = want ≡ Ok x
GivesUnless m (Err e) want = e ≢ m → want ≡ Err e

-- go on with the value, or hand the fault on
abbrev pub then_with : {A B E : Type 0} → Result A E → (A → Result B E) → Result B E
then_with (Ok x) next = next x
then_with (Err e) next = Err e

-- the answer with f of its value
abbrev pub seen_as : {A B E : Type 0} → (A → B) → Result A E → Result B E
seen_as f (Ok x) = Ok (f x)
seen_as f (Err e) = Err e

-- the answer with its fault inside another
abbrev pub lifted : {A E F : Type 0} → (E → F) → Result A E → Result A F
lifted wrap (Ok x) = Ok x
lifted wrap (Err e) = Err (wrap e)
