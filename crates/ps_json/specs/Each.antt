-- The items of a list, read one after another.
use Rattle.std.specs.Prelude.{List, [], ◌∷◌, ◌++◌, Result, Ok}
use Rattle.serde_json.specs.Data.{Data}
use Rattle.ps_json.specs.Answer.{then_with}

-- each item read, or the first refusal
abbrev pub read_each : {A E : Type 0} → (Data → Result A E) → List Data → Result (List A) E
read_each read [] = Ok []
read_each read (d ∷ ds) = then_with (read d) (λ x. then_with (read_each read ds) (λ xs. Ok (x ∷ xs)))

-- the same behind what was read before, as a loop over the items goes on
abbrev pub read_after : {A E : Type 0} → (Data → Result A E) → List A → List Data → Result (List A) E
read_after read done [] = Ok done
read_after read done (d ∷ ds) = then_with (read d) (λ x. read_after read (done ++ x ∷ []) ds)
