-- What is known where a call ended well.
use Rattle.std.specs.Result.{OnOk}
use Rattle.std.proofs.Common.{◌≡◌, ◌∙◌, ◌++◌, ℕ, Err, List, Ok, Result, ap}
use Rattle.rehearsal_report.specs.Line.{line_text}
use Rattle.rehearsal_model.specs.Simulations.{Simulation}

pub reported : {T E : Type 0} (r : Result T E) (new old : List ℕ) (line : ℕ) (said told : List ℕ) → said ≡ told → OnOk r (new ≡ old ++ line_text line said) → OnOk r (new ≡ old ++ line_text line told)
reported (Ok x) new old line said told same known = known ∙ ap (λ s. old ++ line_text line s) same
reported (Err e) new old line said told same known = tt

pub seen_as : {T E : Type 0} (r : Result T E) (new a b : Simulation) → a ≡ b → OnOk r (new ≡ a) → OnOk r (new ≡ b)
seen_as (Ok x) new a b same known = known ∙ same
seen_as (Err e) new a b same known = tt

pub on_ok : {T E P : Type 0} (r : Result T E) → P → OnOk r P
on_ok (Ok x) p = p
on_ok (Err e) p = tt
