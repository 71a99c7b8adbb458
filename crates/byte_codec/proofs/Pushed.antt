-- A byte, and more bytes behind it.
use Rattle.std.proofs.Common.{◌≡◌, ℕ, List, [], ◌∷◌, ◌++◌, Result, Ok, Err, ap, ◌∙◌, append_assoc}
use Rattle.std.specs.Prelude.{OnOk}

pub push_then : {A E : Type 0} (r : Result A E) (old middle new code : List ℕ) (n : ℕ) → middle ≡ old ++ n ∷ [] → OnOk r (new ≡ middle ++ code) → OnOk r (new ≡ old ++ n ∷ code)
push_then (Ok a) old middle new code n pushed written = written ∙ (ap (λ (t : List ℕ). t ++ code) pushed ∙ append_assoc old (n ∷ []) code)
push_then (Err e) old middle new code n pushed written = tt
