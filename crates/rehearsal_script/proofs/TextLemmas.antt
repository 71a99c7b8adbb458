-- What a test of bytes as a text tells, and what a sign before a priority does.
use Rattle.std.proofs.Common.{◌≡◌, ◌≢◌, ℕ, ℤ, pos, ◌-ℤ◌, ◌==◌, true, false, refl, ap, List, [], ◌∷◌, Option, Some, None, arith}
use Rattle.std.specs.Option.{option_map}
use Rattle.std.specs.Str.{IsUtf8, is_utf8}
use Rattle.std.proofs.lemmas.Bool.Decides.{nat_tests}
use Rattle.std.proofs.lemmas.Str.{IsUtf8-from_is_utf8}
use Rattle.rehearsal_script.specs.Words.{number_of, priority_of}

-- the test fails on bytes that are no text
pub not_text : (bs : List ℕ) → ¬ IsUtf8 bs → false ≡ is_utf8 bs
not_text bs other =
    let cases = elim (is_utf8 bs) as (λ b. is_utf8 bs ≡ b → false ≡ b) [
      | true ↦ λ yes. absurd (other (IsUtf8-from_is_utf8 bs yes))
      | false ↦ λ _. refl
    ] in
    cases refl

-- after '-', the size is taken from 0
pub priority_of-minus : (bs rest : List ℕ) → bs ≡ 45 ∷ rest → priority_of bs ≡ option_map (λ n. pos 0 -ℤ pos n) (number_of 0 1000 rest)
unfolding priority_of
priority_of-minus bs rest is = rw is refl

-- with no '-', the size is the priority
pub priority_of-plain : (bs : List ℕ) → ((rest : List ℕ) → bs ≢ 45 ∷ rest) → priority_of bs ≡ option_map (λ n. pos n) (number_of 0 1000 bs)
unfolding priority_of number_of
priority_of-plain [] other = refl
priority_of-plain (c ∷ cs) other =
    let apart : c ≢ 45 = λ is. other cs (ap (λ x. x ∷ cs) is) in
    let no_sign : (c == 45) ≡ false = grind (arith, nat_tests) in
    rw no_sign refl

-- the sign taken before or after a size is found
pub signed : (size : Option ℕ) (z : Option ℤ) → z ≡ option_map (λ n. pos n) size → option_map (λ z. pos 0 -ℤ z) z ≡ option_map (λ n. pos 0 -ℤ pos n) size
signed None z is = rw is refl
signed (Some n) z is = rw is refl
